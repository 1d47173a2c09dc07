-- The code's reasons as the definition's, and the number of each.
use Rattle.definition.specs.Prelude.{ℕ}
use Rattle.definition.specs.Refusals as Definition
use Rattle.errors.specs.declared.Refusal.{Refusal}
use Rattle.errors.specs.declared.reasons.Reason.{Reason}
use Rattle.errors.specs.declared.reasons.Reason.TheVariants as Run
use Rattle.errors.specs.declared.reasons.TokenReason.{TokenReason}
use Rattle.errors.specs.declared.reasons.TokenReason.TheVariants as Tokens

abbrev pub reason_of : Reason → Definition.Reason
reason_of Run.ModeAbove2 = Definition.mode_above_2
reason_of Run.ShortImage = Definition.short_image
reason_of Run.BadCount = Definition.bad_count
reason_of Run.BadOffset = Definition.bad_offset
reason_of Run.BadEntry = Definition.bad_entry
reason_of Run.BadRecord = Definition.bad_record
reason_of Run.TooDeep = Definition.too_deep
reason_of Run.ShortArea = Definition.short_area
reason_of Run.EmptyAfterColon = Definition.empty_after_colon
reason_of Run.NothingBeforeRange = Definition.nothing_before_range
reason_of Run.EmptyRange = Definition.empty_range
reason_of Run.SecondDots = Definition.second_dots
reason_of Run.ThreeDots = Definition.three_dots
reason_of Run.NotOneToken = Definition.not_one_token
reason_of Run.BoundOverflow = Definition.bound_overflow
reason_of Run.NoLiteral = Definition.no_literal
reason_of Run.Overflow = Definition.overflow
reason_of Run.NegativeBound = Definition.negative_bound
reason_of Run.Reversed = Definition.reversed
reason_of Run.ZeroWidth = Definition.zero_width
reason_of Run.StartAboveWidth = Definition.start_above_width
reason_of Run.EndAboveWidth = Definition.end_above_width
reason_of Run.RangeAboveWidth = Definition.range_above_width
reason_of Run.EndZero = Definition.end_zero
reason_of Run.OpenStart = Definition.open_start
reason_of Run.LiteralInSink = Definition.literal_in_sink
reason_of Run.LoneFillerSink = Definition.lone_filler_sink
reason_of Run.SecondFiller = Definition.second_filler
reason_of Run.ZeroTotalWidth = Definition.zero_total_width
reason_of Run.SumOverflow = Definition.sum_overflow
reason_of Run.FillerWithoutStart = Definition.filler_without_start
reason_of Run.UnequalWidths = Definition.unequal_widths
reason_of Run.NoCommonWidth = Definition.no_common_width
reason_of Run.OnlySource = Definition.only_source
reason_of Run.MiddleFiller = Definition.middle_filler
reason_of Run.OppositeFillers = Definition.opposite_fillers

abbrev pub token_reason_of : TokenReason → Definition.TokenReason
token_reason_of Tokens.BadToken = Definition.bad_token
token_reason_of Tokens.EmptyComponent = Definition.empty_component
token_reason_of Tokens.OverLimits = Definition.over_limits
token_reason_of Tokens.ShortImageArea = Definition.short_image_area

abbrev pub number : Reason → ℕ
number r = Definition.number_of (reason_of r)

abbrev pub token_number : TokenReason → ℕ
token_number r = Definition.token_number (token_reason_of r)

-- of this number, with these places
abbrev pub refusal : ℕ → ℕ → ℕ → Refusal
refusal n i k = record { number = n; concatenation = i; component = k }
