-- The flat machine over entries, place by place. An entry is a record with the core that it found.
use Rattle.std.specs.Prelude.{◌≡◌, ◌≢◌, ℕ, ◌<◌, Bool, true, false, not, ◌&&◌, ◌||◌, if◌then◌else◌, List, [], ◌∷◌, ◌++◌, ◌==◌, nat_eq}
use Rattle.std.specs.Prelude.{is_some, option_to_list}
use Rattle.rv_core.specs.declared.state.CoreState.{CoreState}
use Rattle.rv_core.specs.declared.step.Record.{Record}
use Rattle.sn_base.specs.Image.{ImageData}
use Rattle.sn_consistency.specs.Words.{Content, kind, block, place, next, content_after, block_word, reads, writes, is_lr, is_sc, takes}
use Rattle.rv_core.specs.Core.{bare, is_running}

-- `found` is the core before it, without its reservation
pub record Entry : Type 0 where
  pub found : CoreState
  pub did : Record

-- a flat state by places: cores without reservations, whether core n has a reservation of block b, blocks, and the
-- bytes that core n has taken
pub record Places : Type 0 where
  pub core : ℕ → CoreState
  pub held : ℕ → ℕ → Bool
  pub content : ℕ → Content
  pub taken : ℕ → List ℕ

-- whether it writes a block
abbrev pub is_writer : ImageData → Entry → Bool
is_writer image e = writes (kind image e.found) e.did.sc_done

-- whether it reads or writes a block at all: an SC that is not done does not
abbrev pub touches : ImageData → Entry → Bool
touches image e = reads (kind image e.found) || is_writer image e

-- whether it writes block b
abbrev pub writes_to : ImageData → Entry → ℕ → Bool
writes_to image e b = is_writer image e && (b == block image e.found)

-- a function with another value at one place
abbrev pub put : {A : Type 0} → (ℕ → A) → ℕ → A → ℕ → A
put f k v j = if j == k then v else f j

-- what an entry makes of its own core's reservation of block b
abbrev pub own : ImageData → Entry → ℕ → Bool → Bool
own image e b old =
    if is_lr (kind image e.found) then nat_eq (block image e.found) b
    else if is_sc (kind image e.found) then false
    else old

-- the flat state after an entry
abbrev pub step : ImageData → Places → Entry → Places
step image F e = record {
  core = put F.core e.did.core (bare (next image e.found e.did));
  held = λ n b. if n == e.did.core then own image e b (F.held n b) else F.held n b && not (writes_to image e b);
  content = λ b. if writes_to image e b then content_after image e.found e.did (F.content b) else F.content b;
  taken = λ n. if nat_eq e.did.core n then F.taken n ++ option_to_list e.did.read else F.taken n;
}

-- what an entry has to fulfil whatever the state is
pub record Fits (image : ImageData) (N : ℕ) (e : Entry) : Type 0 where
  pub within : e.did.core < N
  pub running : is_running e.found.end ≡ true
  pub unseen : reads (kind image e.found) ≡ false → e.did.seen ≡ 0
  pub done_sc : e.did.sc_done ≡ true → is_sc (kind image e.found) ≡ true
  pub byte : is_some e.did.read ≡ takes (kind image e.found)

-- what it has to fulfil in a state: it is its core's next instruction, it sees what the state has, and an SC that is done
-- has its reservation
pub record Legal (image : ImageData) (N : ℕ) (F : Places) (e : Entry) : Type 0 where
  pub fits : Fits image N e
  pub same : e.found ≡ F.core e.did.core
  pub seen : reads (kind image e.found) ≡ true →
      e.did.seen ≡ block_word (F.content (block image e.found)) (place image e.found)
  pub done : e.did.sc_done ≡ true → F.held e.did.core (block image e.found) ≡ true

-- the flat state after a list
abbrev pub run : ImageData → Places → List Entry → Places
run image F [] = F
run image F (e ∷ es) = run image (step image F e) es

-- each entry in turn is legal
abbrev pub Good : ImageData → ℕ → Places → List Entry → Type 0
Good image N F [] = Unit {0}
Good image N F (e ∷ es) = Legal image N F e × Good image N (step image F e) es

-- may change places: of different cores, and no write of a block that both touch
pub record Apart (image : ImageData) (e y : Entry) : Type 0 where
  pub cores : e.did.core ≢ y.did.core
  pub reads_only : touches image e ≡ true → touches image y ≡ true → block image e.found ≡ block image y.found →
      (is_writer image e ≡ false) × (is_writer image y ≡ false)

abbrev pub AllApart : ImageData → Entry → List Entry → Type 0
AllApart image e [] = Unit {0}
AllApart image e (y ∷ ys) = Apart image e y × AllApart image e ys
