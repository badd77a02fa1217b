use Rattle.std.proofs.Common.{take}
use lib.Utf8.{encodes}
use Rattle.std.specs.Fmt.{HasWritten, IsPlainFormatter}
use Rattle.rulefile.proofs.display.write_each.Given as goal

abbrev pub invariant-loop-byte : goal.invariant-loop-byte
invariant-loop-byte g l =
    IsPlainFormatter l.initial.f → HasWritten g.W.Write.write_str_gives l.initial.f (encodes (take l.byte-index l.name)) l.f
