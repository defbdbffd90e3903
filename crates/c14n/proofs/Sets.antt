-- The flags name the two sets, whose replacements are ASCII and have 1 to 6 bytes. Assumes nothing.
use mathlib.Core.Path.{◌≡◌, refl, ap, subst, fun_ext}
use mathlib.Core.Bool.{Bool, true, false}
use Prim.Native.Nat.{ℕ}
use Rattle.escape.specs.Escape.{hex_reference}
use Rattle.escape.specs.Scan.{escaped_by, chars_set}
use Rattle.escape.proofs.View.{Kind, is_lt, is_gt, is_amp_lem, is_apos, is_quot, is_cr_lem, is_lf, is_tab, is_other, kind}
use Rattle.escape.proofs.Write.{Sized, Ascii}
use Rattle.escape.proofs.Levels.{chars_sized, chars_ascii}
use Rattle.c14n.specs.C14n.{c14n_attribute, c14n_text, c14n_set}
use Rattle.c14n.specs.Flags.{c14n_chars}

-- the bytes that are replaced, one by one
same_picks : (attribute : Bool) (b : ℕ) → Kind b → escaped_by (c14n_chars attribute) b ≡ (c14n_set attribute).picks b
unfolding escaped_by c14n_chars c14n_attribute c14n_text
same_picks true b is_lt = refl
same_picks true b is_gt = refl
same_picks true b is_amp_lem = refl
same_picks true b is_apos = refl
same_picks true b is_quot = refl
same_picks true b is_cr_lem = refl
same_picks true b is_lf = refl
same_picks true b is_tab = refl
same_picks true b (is_other o) = rw (o.no_lf, o.no_tab, o.no_quot, o.no_lt, o.no_amp, o.no_cr)
same_picks false b is_lt = refl
same_picks false b is_gt = refl
same_picks false b is_amp_lem = refl
same_picks false b is_apos = refl
same_picks false b is_quot = refl
same_picks false b is_cr_lem = refl
same_picks false b is_lf = refl
same_picks false b is_tab = refl
same_picks false b (is_other o) = rw (o.no_gt, o.no_lt, o.no_amp, o.no_cr)

-- the flags name the sets
pub chars_c14n : (attribute : Bool) → chars_set (c14n_chars attribute) ≡ c14n_set attribute
unfolding chars_set c14n_attribute c14n_text c14n_chars
chars_c14n true = ap (λ (picks : ℕ → Bool). record { picks = picks; by = hex_reference }) (fun_ext (λ b. same_picks true b (kind b)))
chars_c14n false = ap (λ (picks : ℕ → Bool). record { picks = picks; by = hex_reference }) (fun_ext (λ b. same_picks false b (kind b)))

-- each replacement has 1 to 6 bytes
pub c14n_sized : (attribute : Bool) → Sized (c14n_set attribute)
c14n_sized attribute = subst Sized (chars_c14n attribute) (chars_sized (c14n_chars attribute))

-- ASCII bytes are replaced by ASCII bytes
pub c14n_ascii : (attribute : Bool) → Ascii (c14n_set attribute)
c14n_ascii attribute = subst Ascii (chars_c14n attribute) (chars_ascii (c14n_chars attribute))
