use Rattle.std.proofs.Common.{rules}
use Rattle.std.proofs.Output.{has_written_append, has_written_of_eq}
use Rattle.rulefile.proofs.Characters.{character_more}
use Rattle.rulefile.proofs.display.write_each.Goals as goal

pub loop-byte-preserved : goal.loop-byte-preserved
loop-byte-preserved g c p =
    has_written_of_eq _ _ _ _ _ (character_more c.args.name.now c.loop-byte.byte-index c.loop-byte-test.true)
    (has_written_append _ _ _ _ _ _ (c.loop-byte.invariant p) (search rules))
