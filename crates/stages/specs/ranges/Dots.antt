-- The scan for dots in code, and the definition's: the code's state is the definition's, items by their records.
use Rattle.std.specs.Prelude as Std
use Rattle.std.specs.Prelude.{Some, None, Ok, Err, ◌≡◌, ◌<◌, ◌≤◌, ◌+◌, ◌-◌, if◌then◌else◌}
use Rattle.definition.specs.Prelude.{ℕ, zero, suc, Bool, true, false, Option, none, some, List, length, take, drop, eqb}
use Rattle.definition.specs.Basics.{Result, ok, ◌>>=◌}
use Rattle.definition.specs.Text.{Item}
use Rattle.definition.specs.Ranges.{Usb, Usbr, Scan, scan_dots, parse_start, parse_end}
use Rattle.errors.specs.declared.reasons.Reason.{Reason}
use Rattle.errors.specs.declared.reasons.Reason.TheVariants as Reasons
use Rattle.stages.specs.token_tree.Table.{start_in, RecordFits}
use Rattle.stages.specs.token_tree.Laid.{Laid, Runs, place_of}
use Rattle.stages.specs.ranges.Values.{RangeReads}
use Rattle.stages.specs.declared.token_tree.types.Tree.{Tree}
use Rattle.stages.specs.declared.token_tree.types.Run.{Run}
use Rattle.stages.specs.declared.ranges.scan.Cut.{Cut}
use Rattle.stages.specs.declared.ranges.scan.Dots.{Dots}
use Rattle.stages.specs.declared.ranges.scan.Lead.{Lead}
use Rattle.stages.specs.declared.ranges.scan.Lead.TheVariants as Leads
use Rattle.stages.specs.declared.ranges.types.Usbr.{Usbr as Now}

abbrev pub cut_by : ℕ → ℕ → Bool → Cut
cut_by lo hi inclusive = record { lo = record { 0 = lo }; hi = record { 0 = hi }; inclusive = inclusive }

abbrev pub dots_by : Lead → Std.Option Cut → Dots
dots_by lead cut = record { lead = lead; cut = cut }

-- ---- the steps

abbrev pub found_by : Std.Option Cut → ℕ → ℕ → Bool → Std.Result Dots Reason
found_by (Some c) lo hi inclusive = Err Reasons.SecondDots
found_by None lo hi inclusive = Ok (dots_by Leads.Nothing (Some (cut_by lo hi inclusive)))

abbrev pub dotted_by : Lead → Std.Option Cut → ℕ → Std.Result Dots Reason
dotted_by Leads.Nothing cut at = Ok (dots_by (Leads.One (record { 0 = at })) cut)
dotted_by (Leads.One first) cut at = Ok (dots_by (Leads.Two first) cut)
dotted_by (Leads.Two first) cut at = Err Reasons.ThreeDots

-- at an item that is no dot: whether it is `=`
abbrev pub undotted_by : Lead → Std.Option Cut → ℕ → ℕ → Bool → Std.Result Dots Reason
undotted_by Leads.Nothing cut at next equal = Ok (dots_by Leads.Nothing cut)
undotted_by (Leads.One first) cut at next equal = Ok (dots_by Leads.Nothing cut)
undotted_by (Leads.Two first) cut at next equal = if equal then found_by cut first.0 next true else found_by cut first.0 at false

abbrev pub scanned_by : Dots → ℕ → ℕ → ℕ → Std.Result Dots Reason
scanned_by d at next b = if eqb b 46 then dotted_by d.lead d.cut at else undotted_by d.lead d.cut at next (eqb b 61)

abbrev ended_with : Lead → Std.Option Cut → ℕ → Std.Result Dots Reason
ended_with Leads.Nothing cut stop = Ok (dots_by Leads.Nothing cut)
ended_with (Leads.One first) cut stop = Ok (dots_by (Leads.One first) cut)
ended_with (Leads.Two first) cut stop = found_by cut first.0 stop false

abbrev pub ended_by : Dots → ℕ → Std.Result Dots Reason
ended_by d stop = ended_with d.lead d.cut stop

-- ---- the definition's state before item n, items by their records

abbrev pub cut_of : List ℕ → Tree → ℕ → Option (ℕ × ℕ) → Bool → Std.Option Cut
cut_of image t r none inclusive = None
cut_of image t r (some f) inclusive = Some (cut_by (place_of image t r f.0) (place_of image t r f.1) inclusive)

-- so many dots, from a record on
abbrev pub lead_of : ℕ → ℕ → Lead
lead_of zero first = Leads.Nothing
lead_of (suc zero) first = Leads.One (record { 0 = first })
lead_of (suc (suc n)) first = Leads.Two (record { 0 = first })

abbrev pub dots_of : List ℕ → Tree → ℕ → ℕ → Scan → Dots
dots_of image t r n st = dots_by (lead_of st.dots (place_of image t r (n - st.dots))) (cut_of image t r st.found st.inclusive)

-- what `dots_in` gives: the definition's scan of the items
abbrev pub dots_in : List ℕ → Tree → ℕ → List Item → Result (Std.Option Cut)
dots_in image t r is = scan_dots is >>= λ st. ok (cut_of image t r st.found st.inclusive)

-- ---- the range of a run whose dots were found from item lo up to item hi

-- behind a start: parse_range from there on
abbrev pub ended_range : Bool → Usb → List Item → Result (Option Usbr)
ended_range inclusive s is = parse_end inclusive is >>= λ e. ok (some (record { start = s; «end» = e }))

abbrev pub ranged_by : ℕ → ℕ → Bool → List Item → Result (Option Usbr)
ranged_by lo hi inclusive is = parse_start (take lo is) >>= λ s. ended_range inclusive s (drop hi is)

-- both sides stand in the table, within the image
pub record Found (image : List ℕ) (t : Tree) (run : Run) (d : Cut) : Type 0 where
  pub at_lo : RecordFits image t d.lo.0
  pub s_before : ℕ
  pub before : Runs image t d.lo.0 (start_in image t d.lo.0) run.r.0 s_before
  pub s_after : ℕ
  pub after : Runs image t run.stop.0 run.«end».0 d.hi.0 s_after

abbrev pub RangedIs : List ℕ → Tree → Run → Cut → Std.Result (Std.Option Now) Reason → Type 0
RangedIs image t run d q =
    (base s lo hi : ℕ) (is : List Item) → Laid image t base run.stop.0 run.«end».0 run.r.0 s is
    → d.lo.0 ≡ place_of image t run.r.0 lo → d.hi.0 ≡ place_of image t run.r.0 hi → lo ≤ hi → hi ≤ length is → lo < length is
    → RangeReads image t base q (ranged_by lo hi d.inclusive is)
