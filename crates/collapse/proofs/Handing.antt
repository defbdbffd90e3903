-- What a call finds at a place of a result, which is tokens with one space between each two: the token after the space (`hands_token`), or at
-- the end "no more" (`hands_none`); the offset after a token cuts no character (`inside_after`). Assumes nothing.
use mathlib.Core.Path.{◌≡◌, refl, ap, sym, ◌∙◌}
use Prim.Native.Nat.{ℕ, suc, ◌+◌, ◌-◌, ◌≤◌, ◌<◌}
use native.Mathlib.Omega.{arith}
use mathlib.Core.Bool.{Bool, true, false, true≢false}
use mathlib.Core.List.{List, [], ◌∷◌, ◌++◌, append-nil}
use lib.ListN.{length, drop, get_or}
use lib.Seq.{drop-append_seam, drop-drop}
use lib.Dec.{ltb}
use borrow.Author.Tests.{eqb-true, le-ltb, ltb-true, ltb-false}
use Rattle.text.proofs.Bytes.{or_left, or_right}
use Rattle.utils.specs.CData.{outside}
use Rattle.utils.specs.CData.{part, no_more}
use Rattle.utils.proofs.Cuts.{at_end}
use Rattle.utils.proofs.Rest.{byte_first}
use Rattle.collapse.specs.Collapse.{is_space, spaces, is_empty, ends, spaced}
use Rattle.collapse.specs.NextToken.{token_size, found, token_at, token_from}
use Rattle.collapse.specs.Tokens.{space_in, Clean}

-- the tokens after the first, each behind a space
abbrev pub following : List (List ℕ) → List ℕ
following [] = []
following (w ∷ ws) = 32 ∷ spaced (w ∷ ws)

pub spaced_following : (w : List ℕ) (ws : List (List ℕ)) → spaced (w ∷ ws) ≡ w ++ following ws
spaced_following w [] = sym (append-nil w)
spaced_following w (v ∷ vs) = refl

pub following_ends : (ws : List (List ℕ)) → ends (following ws) ≡ true
unfolding ends
following_ends [] = refl
following_ends (w ∷ ws) = refl

-- no space stands at the start of a token, or in it
pub clean_spaces : (w x : List ℕ) → Clean w → spaces (w ++ x) ≡ 0
unfolding spaces is_empty
clean_spaces [] x c = absurd (true≢false c.some)
clean_spaces (b ∷ bs) x c = let e : is_space b ≡ false = or_left (is_space b) (space_in bs) c.free in rw e

clean_size : (w x : List ℕ) → space_in w ≡ false → ends x ≡ true → token_size (w ++ x) ≡ length w
unfolding token_size ends
clean_size [] [] e h = refl
clean_size [] (b ∷ bs) e h = let q : is_space b ≡ true = h in rw q
clean_size (b ∷ bs) x e h =
    let q : is_space b ≡ false = or_left (is_space b) (space_in bs) e in
    rw q (ap suc (clean_size bs x (or_right (is_space b) (space_in bs) e) h))

some_size : (w : List ℕ) → is_empty w ≡ false → 1 ≤ length w
unfolding is_empty
some_size [] e = absurd (true≢false e)
some_size (b ∷ bs) e = omega arith

-- after a token no character is cut
pub inside_after : (t : List ℕ) (o : ℕ) → o ≤ length t → ends (drop o t) ≡ true → outside t o ≡ false
unfolding outside ends
inside_after t o h e = go (ltb o (length t)) refl
  where
    go : (u : Bool) → ltb o (length t) ≡ u → outside t o ≡ false
    go true q =
        let less : o < length t = ltb-true o (length t) q in
        let space : get_or t o 0 ≡ 32 = eqb-true (get_or t o 0) 32 (rw (byte_first t o less) at e) in
        rw (le-ltb (length t) o h, space)
    go false q = at_end t o (omega (arith, h, ltb-false o (length t) q))

-- the token `w` after the spaces `lead`, and what is left after it
pub record Handed (t : List ℕ) (o : ℕ) (start : ℕ) (w x : List ℕ) : Type 0 where
  pub is : token_from t o ≡ found (part start (length w)) (start + length w)
  pub rest : drop (start + length w) t ≡ x

pub hands_token : (t : List ℕ) (o : ℕ) (lead w x : List ℕ) → drop o t ≡ lead ++ (w ++ x) → spaces (drop o t) ≡ length lead → Clean w → ends x ≡ true
    → Handed t o (o + length lead) w x
unfolding token_from token_at
hands_token t o lead w x e n c h =
    let start = o + length lead in
    let from : drop start t ≡ w ++ x = sym (drop-drop (length lead) o t) ∙ ap (drop (length lead)) e ∙ drop-append_seam lead (w ++ x) in
    let size = length w - 1 in
    let q : length w ≡ suc size = omega (arith, some_size w c.some) in
    record {
      is = rw (n, from, clean_size w x c.free h, q);
      rest = sym (drop-drop (length w) start t) ∙ ap (drop (length w)) from ∙ drop-append_seam w x;
    }

pub hands_none : (t : List ℕ) (o : ℕ) → drop o t ≡ [] → token_from t o ≡ found no_more o
unfolding token_from token_at token_size spaces
hands_none t o e =
    let z : o + 0 ≡ o = omega arith in
    rw (e, z, e)
