-- Services that are added one after the other.
use Rattle.std.proofs.Common.{◌≡◌, List, [], ◌∷◌, ◌++◌, String, string_bytes, subst, refl}
use Rattle.ttrpc_polled_server.specs.Served.{Served, ServesAll, ServesOne}
use Rattle.ttrpc_polled_server.specs.declared.services.Service.{Service}

-- one more service is added behind the others
pub serves_more : {A M T : Type 0} (old : Served M T) (before : List (String A × Service M T)) (mid new : Served M T) (name : String A) (service : Service M T)
    → ServesAll old before mid → ServesOne mid (string_bytes name) service new → ServesAll old (before ++ (name, service) ∷ []) new
serves_more old [] mid new name service all one = (new, subst (λ m. ServesOne m (string_bytes name) service new) all one, refl)
serves_more old (more ∷ before) mid new name service all one = (all.0, all.1, serves_more all.0 before mid new name service all.2 one)
