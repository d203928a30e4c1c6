-- Numbers of the machine.
use Rattle.std.specs.Prelude.{ℕ}

-- the largest u32, and the largest u64
abbrev pub largest_u32 : ℕ
largest_u32 = 4_294_967_295

abbrev pub largest : ℕ
largest = 18_446_744_073_709_551_615
