-- The texts of the parts that aren't told after an event.
use Rattle.std.specs.Prelude.{◌≡◌, ℕ, ◌<◌, Bool, false, List, length, ⊤}
use Rattle.sn_base.specs.Image.{ImageData}
use Rattle.sn_model.specs.Fabric.{home_of}
use Rattle.sn_model.specs.Machine.{State}
use Rattle.state_parts.specs.Parts.{node_part, controller_part}
use Rattle.state_parts.specs.Touched.{TouchedParts, OnlyThese, AllParts, is_in}
use Rattle.state_json.specs.Parts.{node_text, home_text, net_text, controller_text}

-- the text of every part but these is as it was
pub record AreSameTextsBut (image : ImageData) (nodes homes : List ℕ) (net controller : Bool) (before after : State) : Type 0 where
  pub nodes_stay : (n : ℕ) → n < length before.fabric.nodes → is_in n nodes ≡ false →
      node_text n (node_part after n) ≡ node_text n (node_part before n)
  pub homes_stay : (block : ℕ) → is_in block homes ≡ false →
      home_text image block (home_of after.fabric block) ≡ home_text image block (home_of before.fabric block)
  pub net_stays : net ≡ false →
      net_text (length after.fabric.nodes) after.fabric.net ≡ net_text (length before.fabric.nodes) before.fabric.net
  pub controller_stays : controller ≡ false → controller_text (controller_part after) ≡ controller_text (controller_part before)

abbrev pub OtherTextsStay : ImageData → TouchedParts → State → State → Type 0
OtherTextsStay image (OnlyThese nodes homes net controller) before after = AreSameTextsBut image nodes homes net controller before after
OtherTextsStay image AllParts before after = ⊤
