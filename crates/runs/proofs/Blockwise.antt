-- A run that is copied block by block while it is searched (`Blockwise`), after what it began with (`Blocks`). Assumes nothing.
use mathlib.Core.Path.{◌≡◌, refl, sym, ap, ◌∙◌}
use mathlib.Core.Bool.{Bool}
use mathlib.Core.List.{List}
use Prim.Native.Nat.{ℕ, ◌+◌, ◌-◌, ◌≤◌}
use native.Mathlib.Omega.{arith}
use lib.ListN.{length, take, drop, length-drop}
use borrow.Rule.Slice.PartMut.{mid_of, put_mid, same_len_mid}
use Rattle.text.specs.Call.{laid}
use Rattle.output.specs.Runs.{Plain}
use Rattle.output.proofs.Clip.{over_fits}
use Rattle.output.proofs.Laid.{rest_part}
use Rattle.output.proofs.Runs.{plain_none, plain_join}
use Rattle.runs.specs.RunEnds.{RunEnd, Put}
use Rattle.runs.proofs.Search.{end_after}
use Rattle.runs.proofs.Puts.{piece_length, put_none, put_length, put_more}

-- `k` bytes are copied, up to `e`
pub record Blocks (stops : ℕ → Bool) (text : List ℕ) (i : ℕ) (old out : List ℕ) (e k : ℕ) : Type 0 where
  pub run : Plain stops text i e
  pub count : k ≡ e - i
  pub room : k ≤ length out
  pub holds : Put text i e old out

module _ {stops : ℕ → Bool} {text : List ℕ} {i : ℕ} {old : List ℕ} where
  -- nothing yet
  pub blocks_none : i ≤ length text → {out : List ℕ} {k : ℕ} → out ≡ old → k ≡ 0 → Blocks stops text i old out (i + k) k
  blocks_none h {out} {k} o q =
      let z : i + k ≡ i = omega arith in
      record { run = rw z (plain_none stops text i h); count = omega arith; room = omega arith; holds = rw z (o ∙ put_none text i old) }

  module _ {out : List ℕ} {e k : ℕ} (b : Blocks stops text i old out e k) {f : ℕ} {part : List ℕ} where
    -- a piece more, by a call that is lent the rest of the output
    pub blocks_piece : Plain stops text e f → Put text e f (mid_of k (length out - k) out) part → f - e ≤ length out - k → {n : ℕ} → n ≡ f - i
        → Blocks stops text i old (put_mid k (length out - k) out part) f n
    blocks_piece p q room c =
        let put = put_more text i old e b.holds b.run.from {f = f} p.from p.to (omega (arith, b.count, b.room)) q in
        record {
          run = plain_join stops text i e f b.run p;
          count = c;
          room = omega (arith, b.count, b.room, room, b.run.from, p.from, put_length text i old f put, put_length text i old e b.holds);
          holds = put;
        }

    -- and the rest of the run
    pub blocks_rest : RunEnd stops text e f × Put text e f (mid_of k (length out - k) out) part
        → RunEnd stops text i f × Put text i f old (put_mid k (length out - k) out part)
    blocks_rest r = (
      end_after stops text i b.run r.0,
      put_more text i old e b.holds b.run.from r.0.run.from r.0.run.to (omega (arith, b.count, b.room)) r.1,
    )

-- what the loop over blocks keeps: there is room for `room` bytes, of which `k` are copied, `k₀` before the loop
pub record Blockwise (stops : ℕ → Bool) (text : List ℕ) (i room : ℕ) (begun : List ℕ) (k₀ : ℕ) (out : List ℕ) (k : ℕ) : Type 0 where
  pub count : k ≤ room
  pub within : room ≤ length out
  pub inside : i + room ≤ length text
  pub goes : (old : List ℕ) → Blocks stops text i old begun (i + k₀) k₀ → Blocks stops text i old out (i + k) k

-- a block of `n` bytes more
module _ {stops : ℕ → Bool} {text : List ℕ} {i room : ℕ} {begun : List ℕ} {k₀ : ℕ} {out : List ℕ} {k : ℕ}
    (b : Blockwise stops text i room begun k₀ out k) (n : ℕ) (h : n ≤ room - k) where
  -- it lies in the text, and there is room for it
  pub block_inside : i + k + n ≤ length text
  block_inside = omega (arith, b.count, b.inside)

  pub block_fits : (length (take (i + k + n - (i + k)) (drop (i + k) text)) ≡ n) × (n ≤ length (mid_of k (length out - k) out))
  block_fits =
      let q : i + k + n - (i + k) ≡ n = omega arith in
      (piece_length text (i + k) (i + k + n) block_inside ∙ q, rw (rest_part k out, length-drop k out) (omega (arith, b.count, b.within)))

  module _ {part new : List ℕ} (p : Plain stops text (i + k) (i + k + n)) (q : new ≡ put_mid k (length out - k) out part) where
    -- it is copied by a call that is lent the rest of the output
    pub blockwise_put : Put text (i + k) (i + k + n) (mid_of k (length out - k) out) part → Blockwise stops text i room begun k₀ new (k + n)
    blockwise_put put =
        let kept = put_length text (i + k) (mid_of k (length out - k) out) (i + k + n) put in
        let same : length new ≡ length out = ap length q ∙ same_len_mid k (length out - k) out part kept in
        let z : i + k + n ≡ i + (k + n) = omega arith in
        record {
          count = omega (arith, b.count);
          within = rw same b.within;
          inside = b.inside;
          goes = λ old s.
              rw (q, sym z)
              (blocks_piece (b.goes old s) p put (omega (arith, b.within, b.count)) (omega arith));
        }

    -- or at once
    pub blockwise_laid : part ≡ laid (take (i + k + n - (i + k)) (drop (i + k) text)) (mid_of k (length out - k) out)
        → Blockwise stops text i room begun k₀ new (k + n)
    blockwise_laid c =
        let piece = take (i + k + n - (i + k)) (drop (i + k) text) in
        blockwise_put (c ∙ sym (over_fits piece (mid_of k (length out - k) out) (rw block_fits.0 block_fits.1)))

module _ {stops : ℕ → Bool} {text : List ℕ} {i room : ℕ} {old out : List ℕ} {k : ℕ} (b : Blockwise stops text i room old 0 out k) where
  -- what a call over blocks leaves behind
  pub blockwise_done : (k ≤ room) × Plain stops text i (i + k) × Put text i (i + k) old out
  blockwise_done =
      let w = b.goes old (blocks_none (omega (arith, b.inside)) refl refl) in
      (b.count, w.run, w.holds)
