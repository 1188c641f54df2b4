use Rattle.std.proofs.Common.{rules}
use Rattle.checked.proofs.Decodes.{decoded_sound}
use Rattle.checked.proofs.CheckedCoreMemory.write.Goals as goal

pub returns : goal.returns
returns c =
    let d = decoded_sound _ c.encode.ensures.sound c.encode.ensures.below in
    record { answer = search rules; after = search (rules, d); leaves = search (rules, d); keeps = search rules }
