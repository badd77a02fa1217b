-- The files of the worked rule and of the four small rules, read by computing.
use Rattle.std.proofs.Common.{[], Ok, Err, Result, refl}
use Rattle.rulefile.specs.declared.fault.FileFault.{FileFault}
use Rattle.rulefile.specs.File.{Contents, file_of, row_from}
use Rattle.worked.specs.Cases.{ReadAs, worked, worked_bytes, clearing, clearing_bytes, staying, staying_bytes, hopeless, hopeless_bytes, wavering, wavering_bytes}

-- what is read, and nothing where there is a fault
abbrev held : Result Contents FileFault → Contents
held (Ok c) = c
held (Err fault) = record { lines = []; states_start = 0; states = []; moves_start = 0; moves = [] }

pub worked_read : ReadAs worked_bytes worked
unfolding file_of row_from
worked_read = (held (file_of worked_bytes), refl, refl)

pub clearing_read : ReadAs clearing_bytes clearing
unfolding file_of row_from
clearing_read = (held (file_of clearing_bytes), refl, refl)

pub staying_read : ReadAs staying_bytes staying
unfolding file_of row_from
staying_read = (held (file_of staying_bytes), refl, refl)

pub hopeless_read : ReadAs hopeless_bytes hopeless
unfolding file_of row_from
hopeless_read = (held (file_of hopeless_bytes), refl, refl)

pub wavering_read : ReadAs wavering_bytes wavering
unfolding file_of row_from
wavering_read = (held (file_of wavering_bytes), refl, refl)
