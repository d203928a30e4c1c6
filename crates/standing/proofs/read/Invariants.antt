-- What was consumed of the input stands at the start of the memory, and each turn but the last reads a byte at least.
use Rattle.std.proofs.Common.{length, ◌-◌, ◌≡◌, ◌≤◌, take}
use Rattle.std.specs.Io.KnownBytes.{Consumes}
use Rattle.standing.proofs.read.Given as goal

abbrev pub invariant-loop-done : goal.invariant-loop-done
invariant-loop-done g l =
    (length l.memory ≡ length l.initial.memory) × (l.done ≤ length l.memory) × Consumes (g.R.Read.remaining l.initial.input) (g.R.Read.remaining l.input) (take l.done l.memory)

abbrev pub decreases-loop-done : goal.decreases-loop-done
decreases-loop-done g l = length l.initial.memory - l.done
