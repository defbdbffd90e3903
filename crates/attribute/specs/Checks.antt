-- The checks of what a walk is set to (document 01, Refusals by place). Assumes nothing.
use Rattle.std.specs.Prelude.{ℕ, ltb}
use Rattle.text.specs.Bytes.{pick}
use Rattle.text.specs.Call.{version_check}
use Rattle.text.specs.Answers.{Answer}
use Rattle.text.specs.Answers.{Refused}

-- refusals 2, 3 and 4: depth over 128, opening limit over 1,000,000, unknown version byte
unfoldable pub settings_check : ℕ → ℕ → ℕ → Answer
unfolding version_check
settings_check version depth limit =
    pick (ltb 128 depth) (Refused 2 0 0)
    (pick (ltb 1000000 limit) (Refused 3 0 0)
    (version_check version))
