-- One digit more after others. Assumes nothing.
use Rattle.std.specs.Prelude.{◌&&◌, cond, ℕ, ◌+◌, ◌-◌, ◌*◌, leb, Option, Some, None}
use Rattle.console.specs.Decimal.{is_digit}

-- one digit more after others that spell n
abbrev pub one_more : ℕ → ℕ → ℕ → Option ℕ
one_more n b most = cond (is_digit b && leb (10 * n + (b - 48)) most) (Some (10 * n + (b - 48))) None
