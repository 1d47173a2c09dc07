-- The premises of the cutting claim are met by its closed examples.
use Rattle.cutting.specs.Statement.{Premises}
use Rattle.cutting.specs.Witnesses.{meets, two, prefixed, two_right, prefixed_right}

-- the premises of the claim can be met
pub met : Premises two × Premises prefixed
met = (meets two two_right, meets prefixed prefixed_right)
