-- A word by its highest one.
use Rattle.std.specs.Prelude.{ℕ, ◌-◌, ◌^◌, if◌then◌else◌, ◌==◌}
use Rattle.std.specs.Int.Count.{count_leading_zeros}

-- 0 has no one
abbrev pub without_leading_one : ℕ → ℕ
without_leading_one s = if s == 0 then 0 else s - 2 ^ (15 - count_leading_zeros 16 s)
