-- What an alignment in code means.
use Rattle.definition.specs.Concatenation.{FillerAlign, align_none, align_single, align_lsb, align_msb, align_mid, align_multiple}
use Rattle.stages.specs.declared.concatenation.alignment.align.FillerAlign.{FillerAlign as Align}
use Rattle.stages.specs.declared.concatenation.alignment.align.FillerAlign.TheVariants as A

abbrev pub align_of : Align → FillerAlign
align_of A.None = align_none
align_of A.Single = align_single
align_of A.Lsb = align_lsb
align_of A.Msb = align_msb
align_of A.Mid = align_mid
align_of A.Multiple = align_multiple
