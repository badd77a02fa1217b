-- What each fault tells: its number, the byte place that it is about, and the layer in which it arises.
use Rattle.codec.specs.declared.fault.Layer.TheVariants as layer
use Rattle.codec.specs.declared.fault.Report.{Report}
use Rattle.codec.specs.declared.fault.NumberFault.{NumberFault}
use Rattle.codec.specs.declared.fault.NumberFault.TheVariants.{Short, Form}
use Rattle.codec.specs.declared.fault.CardFault.{CardFault}
use Rattle.codec.specs.declared.fault.CardFault.TheVariants as card

-- 11: the bytes end inside a number; 12: a number too long or not in the fewest bytes
abbrev pub number_report : NumberFault → Report
number_report (Short place) = record { number = 11; place = place; layer = layer.Number }
number_report (Form place) = record { number = 12; place = place; layer = layer.Number }

-- a fault of a number is told as it is; 11: the bytes end inside a card; 13: a value outside its range; 14: a name byte out of range
abbrev pub card_report : CardFault → Report
card_report (card.Number fault) = number_report fault
card_report (card.Short place) = record { number = 11; place = place; layer = layer.Card }
card_report (card.Range place) = record { number = 13; place = place; layer = layer.Card }
card_report (card.NameByte place) = record { number = 14; place = place; layer = layer.Card }
