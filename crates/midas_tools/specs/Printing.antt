-- Text that goes to a sink by way of a page, which is written when it is full.
use Rattle.std.specs.Prelude.{◌≡◌, ℕ, List, ◌++◌, Option, Result, Ok, Err}
use Rattle.std.specs.Io.KnownBytes.{Appends}
use Rattle.daq_io.specs.declared.faults.Failed.{Failed}
use Rattle.daq_io.specs.Streams.{AppendsPart}

-- the most bytes of a line
abbrev pub line_room : ℕ
line_room = 128

-- how many bytes a page has room for, which are written at a time
abbrev pub page_room : ℕ
page_room = 65536

-- Of this text all was written but what is on the page.
pub record PrintsSoFar (first now : Option (List ℕ)) (page text : List ℕ) : Type 0 where
  pub done : List ℕ
  pub written : Appends first now done
  pub text_is : text ≡ done ++ page

-- These bytes went to the page, and from there to the sink what does not stand on the page. Where the sink fails, a part of
-- what stood on the page and of them was written.
abbrev pub PassesText : (now new : Option (List ℕ)) (page_old page_new more : List ℕ) → Result (Unit {0}) Failed → Type 0
PassesText now new page_old page_new more (Ok done) = PrintsSoFar now new page_new (page_old ++ more)
PassesText now new page_old page_new more (Err failed) = AppendsPart now new (page_old ++ more)
