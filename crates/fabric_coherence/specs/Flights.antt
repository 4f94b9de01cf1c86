-- The list of flights: in order of their numbers, and those that stand in a switch.
use Rattle.std.specs.Prelude.{ℕ, ◌+◌, ◌≤◌, ⊤, nat_eq, if◌then◌else◌, List, [], ◌∷◌}
use Rattle.sn_model.specs.Fabric.{Flight}

-- all numbers in flight are this one or above it
abbrev pub From : List Flight → ℕ → Type 0
From [] next = ⊤
From (f ∷ fs) next = (next ≤ f.message.id) × From fs next

-- the numbers rise
abbrev pub Rising : List Flight → Type 0
Rising [] = ⊤
Rising (f ∷ fs) = From fs (f.message.id + 1) × Rising fs

-- the numbers of the messages that stand in a switch
abbrev pub standing : ℕ → List Flight → List ℕ
standing switch [] = []
standing switch (f ∷ fs) = if nat_eq f.place switch then f.message.id ∷ standing switch fs else standing switch fs
