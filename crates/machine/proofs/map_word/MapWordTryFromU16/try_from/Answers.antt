use Rattle.std.proofs.Common.{arith}
use Rattle.std.proofs.lemmas.Bool.Decides.{nat_tests}
use Rattle.model.specs.Machine.{sense_of_word}
use Rattle.machine.proofs.Answered.{unlisted}
use Rattle.machine.proofs.map_word.MapWordTryFromU16.try_from.Goals as goal

pub returns-then-is_one : goal.returns-then-is_one
unfolding sense_of_word
returns-then-is_one c = grind (arith, nat_tests)

pub returns-then-is_wordless : goal.returns-then-is_wordless
unfolding sense_of_word
returns-then-is_wordless c = λ s. grind (arith, nat_tests, unlisted)

pub returns : goal.returns
unfolding sense_of_word
returns c = grind (arith, nat_tests)
