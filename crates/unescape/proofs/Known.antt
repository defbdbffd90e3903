-- The step at a reference that was met before, or that is read and then kept. Assumes nothing.
use mathlib.Core.Path.{◌≡◌, refl, subst, ◌∙◌}
use mathlib.Core.Bool.{true}
use mathlib.Core.List.{List}
use Prim.Native.Nat.{ℕ, ◌-◌, ◌<◌, min}
use native.Mathlib.Omega.{arith}
use lib.ListN.{length, get_or}
use borrow.Rule.Slice.PartMut.{mid_of, put_mid}
use Rattle.entity.specs.Binding.{Bound}
use Rattle.output.specs.Over.{over}
use Rattle.tokens.specs.Tokens.{name_at, reference_at}
use Rattle.tokens.specs.Seen.{Repeated, Remembered}
use Rattle.tokens.specs.Memory.{Memory, Advanced}
use Rattle.tokens.specs.Walking.{Step}
use Rattle.tokens.specs.Walking.{Next}
use Rattle.tokens.proofs.Memory.{advanced_again, advanced_once, advanced_kept}
use Rattle.unescape.specs.Unescape.{text_head}
use Rattle.unescape.specs.Steps.{Near, Referred, unescaping}
use Rattle.unescape.proofs.Shifted.{replaced_shifts}

-- at a `&` a reference is read, and the next `&` or `;` must be `;`
amp_reads : (offset : ℕ) (bs : List ℕ) → text_head offset 38 bs ≡ reference_at offset bs (name_at true bs)
unfolding text_head
amp_reads offset bs = refl

module _ (bind : List ℕ → Bound) (text : List ℕ) (i len : ℕ) (seen old : List ℕ) where
  -- what a step at a reference gives, whatever the value so far is
  abbrev pub Known : List ℕ → List ℕ → Step → Type 0
  Known kept new r =
      (value whole : List ℕ) → Memory (unescaping bind) text seen value → old ≡ over value whole → length value ≡ len
      → Advanced (unescaping bind) text i 0 value whole kept new r × Near text i r

  pub known_again : {new : List ℕ} {a l m : ℕ} → get_or text i 0 ≡ 38 → Repeated text i len 0 0 seen old new a l m → Known seen new (Next a l m)
  known_again b s value whole mem o q =
      let x = mem.each s.slot s.known in (
        advanced_again (unescaping bind) text mem b o q s,
        (omega (arith, s.to, x.low), omega (arith, s.to, s.met.room), omega (arith, s.size, x.small), omega (arith, s.within)),
      )

  module _ {out part : List ℕ} {wd : ℕ} (same : out ≡ old) (least : wd ≡ min len (length out)) where
    pub known_once : {r : Step} → Referred bind text i (mid_of wd (length out - wd) out) part r → Known seen (put_mid wd (length out - wd) out part) r
    known_once s value whole mem o q = (advanced_once (unescaping bind) text (same ∙ o) q least s.step mem, s.near)

    pub known_kept : {kept : List ℕ} {a l m : ℕ} → ((k : ℕ) → get_or text k 0 < 256) → get_or text i 0 ≡ 38
        → Referred bind text i (mid_of wd (length out - wd) out) part (Next a l m) → Remembered text i (a - i) len l 0 seen kept
        → Known kept (put_mid wd (length out - wd) out part) (Next a l m)
    known_kept {kept} {a} {l} {m} bytes b s r value whole mem o q =
        let n = s.near in
        let z : 0 ≡ m - 0 = omega (arith, n.3) in (
          advanced_kept (unescaping bind) text bytes true amp_reads (replaced_shifts bind 0) mem b (same ∙ o) q least s.step
              n.0 (omega arith) (omega (arith, n.3)) n.2 (subst (λ (k : ℕ). Remembered text i (a - i) len l k seen kept) z r),
          n,
        )
