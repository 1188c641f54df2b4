-- The laws of programs, together.
use Rattle.model.specs.Programs.{Lawful}
use Rattle.model.proofs.CutRuns.{cut_steps}
use Rattle.model.proofs.Reach.{reads_in_reach, writes_in_reach}

pub lawful : Lawful
lawful = record { reads = reads_in_reach; writes = writes_in_reach; cuts = λ m ks r q cs ds c. cut_steps m q ds ks r cs c }
