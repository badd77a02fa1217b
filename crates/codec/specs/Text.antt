-- How a layer of faults is written.
use Rattle.std.specs.Prelude.{ℕ, List, codes}
use Rattle.codec.specs.declared.fault.Layer.{Layer}
use Rattle.codec.specs.declared.fault.Layer.TheVariants as layer

abbrev pub layer_text : Layer → List ℕ
layer_text layer.Number = codes "number"
layer_text layer.Card = codes "card"
layer_text layer.File = codes "file"
