-- K13 for unescaping: two bindings that agree on each name that unescaping with the first looks up give one outcome, by way of the same
-- names (`unescape_agrees`). Assumes nothing.
use mathlib.Core.Path.{◌≡◌, refl, ap}
use Prim.Native.Nat.{ℕ}
use mathlib.Core.List.{List, []}
use Rattle.entity.specs.Binding.{Bound}
use Rattle.tokens.specs.Tokens.{Stop, kept, space, number, named, unterminated, tokens}
use Rattle.tokens.specs.Lookups.{Each}
use Rattle.tokens.proofs.Lookups.{Agree, agree_itself, run_agrees}
use Rattle.unescape.specs.Unescape.{text_head, copied, replaced, unescape_from, unescape}
use Rattle.unescape.specs.LookedUpInText.{name_asked, looked_up_in_text}

module _ (bind other : List ℕ → Bound) where
  abbrev pub Same : List ℕ → Type 0
  Same name = bind name ≡ other name

  replaced_agrees : (s : Stop) (n : ℕ) → Each Same (name_asked s n) → Agree (replaced bind s n) (replaced other s n) (name_asked s n) (name_asked s n)
  unfolding replaced name_asked
  replaced_agrees (kept b) n e = agree_itself (replaced bind (kept b) n) []
  replaced_agrees space n e = agree_itself (replaced bind space n) []
  replaced_agrees (number digits) n e = agree_itself (replaced bind (number digits) n) []
  replaced_agrees (named offset name) n e = record { outcome = ap (λ (b : Bound). copied offset name b n) e.0; asks = refl }
  replaced_agrees (unterminated offset end) n e = agree_itself (replaced bind (unterminated offset end) n) []

  pub unescape_agrees : (t : List ℕ) → Each Same (looked_up_in_text bind t)
      → Agree (unescape bind t) (unescape other t) (looked_up_in_text bind t) (looked_up_in_text other t)
  unfolding unescape unescape_from looked_up_in_text
  unescape_agrees t e = run_agrees Same (replaced bind) (replaced other) name_asked name_asked replaced_agrees (tokens text_head 0 0 t) 0 e
