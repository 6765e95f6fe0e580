use Rattle.std.specs.Prelude.{ℕ}

-- 5.0.0, as major * 10000 + minor * 100 + patch
abbrev pub version : ℕ
version = 50000
