-- A reader of lines, as the reading that contracts see.
use Rattle.std.specs.Prelude.{ℕ, List, [], Some, None}
use Rattle.srcp_text.specs.Marks.{without_cr}
use Rattle.srcp_text.specs.Reading.{Reading}
use Rattle.srcp_text.specs.declared.reader.State.{State}
use Rattle.srcp_text.specs.declared.reader.State.TheVariants.{Begun, TooLong, Found}

-- the reading of a reader in this state with these bytes
abbrev pub reading_of : State → List ℕ → Reading
reading_of Begun bytes = record { begun = Some bytes; line = [] }
reading_of TooLong bytes = record { begun = None; line = [] }
reading_of Found bytes = record { begun = Some []; line = without_cr bytes }
