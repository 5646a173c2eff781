-- Texts put one behind another: all of them, or those before one of which a first part is put.
use Rattle.std.proofs.Common.{◌≡◌, ℕ, List, ◌++◌, Option, subst}
use Rattle.p3_base.specs.Outside.{IsPartlyPut, IsPut}
use Rattle.p3_reports.proofs.PutLemmas.{both_put, partly_first, partly_second}

-- ---- three texts

module _ (a b c : List ℕ) where
  pub first_of_three : (old new : Option (List ℕ)) → IsPartlyPut a old new → IsPartlyPut (a ++ b ++ c) old new
  first_of_three old new partly = partly_first (a ++ b) c old new (partly_first a b old new partly)

  pub second_of_three : (old one new : Option (List ℕ)) → IsPut a old one → IsPartlyPut b one new → IsPartlyPut (a ++ b ++ c) old new
  second_of_three old one new first partly = partly_first (a ++ b) c old new (partly_second a b old one new first partly)

  pub third_of_three : (old one two new : Option (List ℕ)) → IsPut a old one → IsPut b one two → IsPartlyPut c two new → IsPartlyPut (a ++ b ++ c) old new
  third_of_three old one two new first second partly = partly_second (a ++ b) c old two new (both_put a b old one two first second) partly

  pub three_put : (old one two new : Option (List ℕ)) → IsPut a old one → IsPut b one two → IsPut c two new → IsPut (a ++ b ++ c) old new
  three_put old one two new first second third = both_put (a ++ b) c old two new (both_put a b old one two first second) third

-- ---- the text of a list that was lent

module _ {A : Type 0} (text : List A → List ℕ) {lent own : List A} (is : lent ≡ own) (old new : Option (List ℕ)) where
  pub lent_put : IsPut (text lent) old new → IsPut (text own) old new
  lent_put put = subst (λ list. IsPut (text list) old new) is put

  pub lent_partly : IsPartlyPut (text lent) old new → IsPartlyPut (text own) old new
  lent_partly partly = subst (λ list. IsPartlyPut (text list) old new) is partly
