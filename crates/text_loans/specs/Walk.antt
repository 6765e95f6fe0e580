-- What the walk over a ticket and its loans is lent and leaves. It prints what `visit` says (report/specs/Marked); the tables are in order, so
-- that this is the report.
use Rattle.std.specs.Prelude.{ℕ, ◌+◌, ◌*◌, ◌≤◌, ◌<◌, ◌≡◌, true, cond, Option, Some, None, List, length, get_or}
use Rattle.tables.specs.declared.{Name.Name, Ticket.Ticket, Tables.Tables}
use Rattle.tables.specs.Kinds.{is_recall}
use Rattle.tables.specs.Names.{free}
use Rattle.tables.specs.Lookup.{place_of}
use Rattle.tables.specs.Chains.{own_name}
use Rattle.image.specs.Layout.{image_size}
use Rattle.image.specs.Image.{decode}
use Rattle.image_places.specs.Places.{name_at}
use Rattle.image_read.specs.Places.{tickets_in}
use Rattle.text.specs.Appending.{Appends}
use Rattle.text_marks.specs.Marks.{mark_bytes, marked_in, unmarked}
use Rattle.preservation.specs.InOrder.{InOrder}
use Rattle.report.specs.Rows.{is_listed}
use Rattle.report.specs.Report.{line_room, report_room}
use Rattle.report.specs.Marked.{Visit}

-- ---- the tables, and a ticket in them by its place
pub record Ordered (image : List ℕ) : Type 0 where
  pub long : length image ≡ image_size
  pub order : InOrder (decode image)

abbrev pub ticket_in : List ℕ → ℕ → Ticket
ticket_in image place = get_or (tickets_in image) place free

abbrev pub name_in : List ℕ → ℕ → Name
name_in image place = name_at place (ticket_in image place)

-- the ticket at the place is the one that its name finds
pub record Kept (image : List ℕ) (place : ℕ) : Type 0 where
  pub low : place < 256
  pub kept : place_of (decode image) (name_in image place) ≡ place

-- a grant that the report lists
pub record Listed (image : List ℕ) (place : ℕ) : Type 0 where
  pub here : Kept image place
  pub listed : is_listed (decode image) (name_in image place) ≡ true

-- a recall that stands under such a grant
pub record Lending (image : List ℕ) (place : ℕ) : Type 0 where
  pub here : Kept image place
  pub recall : is_recall (ticket_in image place).kind ≡ true
  pub lender : is_listed (decode image) (own_name (name_in image place) (ticket_in image place)) ≡ true

-- where a name's ticket is kept, if it is listed
unfoldable pub listed_place : Tables → Name → Option ℕ
listed_place t n = cond (is_listed t n) (Some (place_of t n)) None

-- ---- the walk
-- a line for each place that is not marked has room, and a depth more for each is no more than there are places
pub record Fits (image marks : List ℕ) (at depth place : ℕ) : Type 0 where
  pub tables : Ordered image
  pub grant : Listed image place
  pub scratch : length marks ≡ mark_bytes
  pub room : at + line_room * unmarked (marked_in marks) ≤ report_room
  pub shallow : depth + unmarked (marked_in marks) ≤ 256

pub record Prints (v : Visit) (marks out out' : List ℕ) (at answer : ℕ) : Type 0 where
  pub text : Appends v.text out out' at answer
  pub marked : marked_in marks ≡ v.marks

-- what the walk says with as many places left as are not marked, or more
abbrev pub Printed : (ℕ → Visit) → List ℕ → List ℕ → List ℕ → List ℕ → ℕ → ℕ → Type 0
Printed v marks marks' out out' at answer = (left : ℕ) → unmarked (marked_in marks) ≤ left → Prints (v left) marks' out out' at answer
