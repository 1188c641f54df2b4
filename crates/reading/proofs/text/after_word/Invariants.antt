use Rattle.std.proofs.Common.{◌≡◌, ◌≤◌, length}
use Rattle.reading.specs.Read.{after}
use Rattle.reading.proofs.text.after_word.Given as goal

abbrev pub invariant-loop-wanted : goal.invariant-loop-wanted
invariant-loop-wanted l =
    (after l.initial.wanted l.initial.rest ≡ after l.wanted l.rest)
    × (length l.rest ≤ length l.initial.rest)

abbrev pub decreases-loop-wanted : goal.decreases-loop-wanted
decreases-loop-wanted l = length l.wanted
