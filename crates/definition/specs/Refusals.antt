-- Document 01, "How each operation refuses", and document 02's requests: every reason with its number, in the documents' order. The
-- numbers stand here only.
use Rattle.definition.specs.Prelude.{ℕ, Bool, true, false}
use Rattle.definition.specs.Basics.{Result, ok, refused, refusal_of}

pub data Reason : Type 0 where
  mode_above_2 short_image bad_count bad_offset bad_entry bad_record too_deep short_area : Reason
  empty_after_colon nothing_before_range empty_range second_dots three_dots not_one_token bound_overflow no_literal : Reason
  overflow negative_bound reversed zero_width start_above_width end_above_width range_above_width end_zero open_start : Reason
  literal_in_sink lone_filler_sink second_filler zero_total_width sum_overflow : Reason
  filler_without_start unequal_widths no_common_width only_source middle_filler opposite_fillers : Reason

abbrev pub number_of : Reason → ℕ
-- whole run and image check
number_of mode_above_2 = 1
number_of short_image = 2
number_of bad_count = 3
number_of bad_offset = 4
number_of bad_entry = 5
number_of bad_record = 6
number_of too_deep = 7
number_of short_area = 8
-- stage 1
number_of empty_after_colon = 10
number_of nothing_before_range = 11
number_of empty_range = 12
number_of second_dots = 13
number_of three_dots = 14
number_of not_one_token = 15
number_of bound_overflow = 16
number_of no_literal = 17
-- stage 2
number_of overflow = 20
number_of negative_bound = 21
number_of reversed = 22
number_of zero_width = 23
number_of start_above_width = 24
number_of end_above_width = 25
number_of range_above_width = 26
number_of end_zero = 27
number_of open_start = 28
-- stage 3
number_of literal_in_sink = 30
number_of lone_filler_sink = 31
number_of second_filler = 32
number_of zero_total_width = 33
number_of sum_overflow = 34
-- stage 4
number_of filler_without_start = 40
number_of unequal_widths = 41
number_of no_common_width = 42
number_of only_source = 43
number_of middle_filler = 44
number_of opposite_fillers = 45

-- a refusal whose places are still to be given, or are 0 and 0
abbrev pub refuse : {A : Type 0} → Reason → Result A
refuse r = refused (refusal_of (number_of r) 0 0)

abbrev pub need : Bool → Reason → Result Unit
need true r = ok tt
need false r = refuse r

-- ---- tokens to an image (document 02, L2): an operation of its own, which gives no number of the run's

pub data TokenReason : Type 0 where
  bad_token empty_component over_limits short_image_area : TokenReason

abbrev pub token_number : TokenReason → ℕ
token_number bad_token = 50
token_number empty_component = 51
token_number over_limits = 52
token_number short_image_area = 53

-- a test, refused with this number and the places 0 and 0
abbrev pub needs : Bool → ℕ → Result Unit
needs true n = ok tt
needs false n = refused (refusal_of n 0 0)
