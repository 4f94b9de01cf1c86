-- What is saved after a run is read back and judged to be good, or refused for the nodes that are cut off.
use Rattle.std.proofs.Common.{◌≡◌, ℕ, List, ◌∙◌}
use Rattle.std.specs.Prelude.{Some, None, Ok, Err}
use Rattle.sn_base.specs.Image.{ImageData}
use Rattle.sn_base.specs.declared.config.Config.{Config}
use Rattle.sn_base.specs.declared.event.Event.{Event}
use Rattle.route_plan.specs.Routes.{first_cut_off}
use Rattle.sn_model.specs.PointEvents.{living_switches}
use Rattle.sn_saved.specs.Saved.{Saved}
use Rattle.save_text.specs.declared.cause.SaveCause.TheVariants.{CutOff}
use Rattle.save_text.specs.Judged.{judged_of}
use Rattle.save_text.specs.Reading.{said_by}
use Rattle.save_text.specs.Text.{saved_text}
use Rattle.save_text.specs.Written.{HasValues}
use Rattle.save_text.proofs.Judged.{is_cut_off, of_said}
use Rattle.save_text.proofs.ReadBack.{read_back}
use Rattle.consistent_cuts.specs.Headline.{IsRun}
use Rattle.consistent_cuts.specs.Origins.{Origin, MayBegin, reached_from}
use Rattle.consistent_cuts.proofs.SavedForm.{saved_form}
use Rattle.saved_points.specs.Points.{saved_after, MayBeSaved}
use Rattle.saved_points.proofs.Accepted.{saved_accepted, same_cut_off}
use Rattle.accepted_saves.proofs.Relations.{accepted_good}

module _ (image : ImageData) (config : Config) (origin : Origin) (events : List Event) (may : MayBegin image config origin) (run : IsRun config events) (few : MayBeSaved (saved_after image config origin events)) (values : HasValues (saved_after image config origin events)) where
  abbrev saved : Saved
  saved = saved_after image config origin events

  said : said_by (saved_text saved) ≡ Ok saved
  said = read_back saved (saved_form image config origin events may run few.events few.bytes few.records) values

  pub gone_on_from : first_cut_off (living_switches (reached_from image config origin events).fabric) ≡ None →
      judged_of image (said_by (saved_text saved)) ≡ Ok saved
  gone_on_from joined =
      of_said image saved (said_by (saved_text saved)) (Ok saved) said
      (accepted_good image saved (saved_accepted image config origin events may run few joined))

  pub refused_for : (a b : ℕ) → first_cut_off (living_switches (reached_from image config origin events).fabric) ≡ Some (a, b) →
      judged_of image (said_by (saved_text saved)) ≡ Err (CutOff a b)
  refused_for a b e =
      of_said image saved (said_by (saved_text saved)) (Err (CutOff a b)) said
      (is_cut_off image saved a b (same_cut_off image config origin events may run ∙ e))
