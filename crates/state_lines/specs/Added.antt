-- Texts that are added behind others, with commas between them.
use Rattle.std.specs.Prelude.{◌≡◌, ℕ, Bool, true, false, ◌||◌, List, [], ◌∷◌, ◌++◌}
use Rattle.state_json.specs.Json.{with_commas}

-- whether there are some
abbrev pub are_some : List (List ℕ) → Bool
are_some [] = false
are_some (text ∷ texts) = true

-- these are added after others or as the first; and then some stand there, or the same as before
pub record AreAdded (texts : List (List ℕ)) (old new : List ℕ) (others some : Bool) : Type 0 where
  pub written : new ≡ old ++ with_commas others texts
  pub known : some ≡ (others || are_some texts)
