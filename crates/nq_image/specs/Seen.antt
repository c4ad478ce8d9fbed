-- What was read of an image, as its definitions have it.
use Rattle.nq_image.specs.declared.image.ImageOne.{ImageOne}
use Rattle.nq_image.specs.declared.image.ImageTwo.{ImageTwo}
use Rattle.nq_image.specs.declared.image.Rows.{Rows}
use Rattle.nq_image.specs.declared.image.Tables.{Tables}
use Rattle.nq_image.specs.Image.{FoundOne, FoundRows, FoundTables, FoundTwo}

-- the rows of hosts and files
abbrev pub seen_rows : Rows → FoundRows
seen_rows rows = record { hosts = rows.hosts.items; slots = rows.slots.items }

-- an image of version 1
abbrev pub seen_one : ImageOne → FoundOne
seen_one image = record { boots = image.boots; rows = seen_rows image.rows }

-- the tables
abbrev pub seen_tables : Tables → FoundTables
seen_tables tables = record { ids = tables.ids.items; blocks = tables.blocks.items; marks = tables.marks.items }

-- an image of version 2
abbrev pub seen_two : ImageTwo → FoundTwo
seen_two image = record { front = image.front; rows = seen_rows image.rows; tables = seen_tables image.tables }
