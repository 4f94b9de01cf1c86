-- What holds of the parts holds of their texts.
use Rattle.std.proofs.Common.{◌≡◌, ap, refl}
use Rattle.sn_base.specs.Image.{ImageData}
use Rattle.sn_model.specs.Machine.{State}
use Rattle.state_parts.specs.Touched.{TouchedParts, OnlyThese, AllParts, OthersStay}
use Rattle.state_json.specs.Parts.{node_text, home_text, net_text, controller_text}
use Rattle.state_json.specs.Untold.{OtherTextsStay}

pub texts-stay : (image : ImageData) (t : TouchedParts) (before after : State) → OthersStay t before after →
    OtherTextsStay image t before after
texts-stay image AllParts before after others = tt
texts-stay image (OnlyThese nodes homes net controller) before after others = record {
  nodes_stay = λ n l e. ap (node_text n) (others.nodes_stay n l e);
  homes_stay = λ block e. ap (home_text image block) (others.homes_stay block e);
  net_stays = λ e. rw (others.count, others.net_stays e) refl;
  controller_stays = λ e. ap controller_text (others.controller_stays e);
}
