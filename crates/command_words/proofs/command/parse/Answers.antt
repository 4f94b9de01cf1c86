use Rattle.std.proofs.Common.{◌≡◌, ◌∙◌, refl, ap, sym, map, string_bytes, Result, Ok, Err, IfOk, true, []}
use Rattle.std.proofs.lemmas.Result.{IfOk-weaker, IfErr-weaker}
use Rattle.clap.specs.Words.{App, FailsBy, Kinds, fault_of, is_simple, is_simple_and_free, subcommand_of, takes}
use Rattle.clap.specs.declared.error.Error.{Error}
use Rattle.command_words.specs.Command.{the_app}
use Rattle.command_words.proofs.Taken.{taken}
use Rattle.command_words.proofs.command.parse.Goals as goal

if_ok : {T : Type 0} (r : Result T Error) (kinds : Kinds) (P : Type 0) → (kinds ≡ [] → P) → FailsBy kinds r → IfOk r (λ m. P)
if_ok (Ok m) kinds P h fails = h fails
if_ok (Err e) kinds P h fails = tt

pub returns-clause-entries : goal.returns-clause-entries
returns-clause-entries c =
    let words = map string_bytes c.args.words.now in
    let same = c.in_ok-command.ensures in
    IfOk-weaker c.try_get_matches_from.result _ _
    (λ m h. (h (ap (λ (a : App). is_simple a) same)).1 ∙ ap (λ (a : App). subcommand_of a words) same)
    c.try_get_matches_from.ensures.matches

pub returns-clause-taken : goal.returns-clause-taken
returns-clause-taken c =
    let words = map string_bytes c.args.words.now in
    let same = c.in_ok-command.ensures in
    if_ok c.try_get_matches_from.result _ (takes the_app words ≡ true)
    (λ none. taken the_app words refl refl refl (ap (λ (a : App). fault_of a words) (sym same) ∙ none))
    (c.try_get_matches_from.ensures.kinds (ap (λ (a : App). is_simple_and_free a) same))

pub returns-clause-refusal : goal.returns-clause-refusal
returns-clause-refusal c =
    IfErr-weaker c.try_get_matches_from.result _ _
    (λ e h t. h (ap (λ (a : App). takes a (map string_bytes c.args.words.now)) c.in_ok-command.ensures ∙ t))
    c.try_get_matches_from.ensures.passes
