-- The premises of the cutting claim are met by more closed examples.
use Rattle.cutting.specs.Statement.{Premises}
use Rattle.cutting.specs.Witnesses.{meets}
use Rattle.cutting.specs.Further.{three, between, returned, defaulted, static, three_right, between_right, returned_right, defaulted_right, static_right}

-- the premises of the claim can be met, under every mode, and under a default where 40 would be given without it
pub met : Premises three × Premises between × Premises returned × Premises defaulted × Premises static
met = (
  meets three three_right,
  meets between between_right,
  meets returned returned_right,
  meets defaulted defaulted_right,
  meets static static_right,
)
