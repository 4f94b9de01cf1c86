-- A command takes the words at which it has no fault.
use Rattle.std.proofs.Common.{◌≡◌, ◌&&◌, ◌||◌, ◌≤◌, ℕ, Bool, cond, true, false, not, zero, suc, refl, sym, ap, arith, List, [], ◌∷◌, length}
use Rattle.std.proofs.Common.{drop, Option, Some, None, is_some, codes, true≢false}
use Rattle.std.proofs.lemmas.Bool.Decides.{nat_tests}
use Rattle.std.specs.Prelude.{encode_utf8, slice_get, find}
use Rattle.std.specs.List.{list_all, list_any}
use Rattle.std.specs.Option.{option_map_or}
use Rattle.std.specs.Str.{bytes_eq, chars}
use Rattle.clap.specs.Lexer.{long_of, short_of}
use Rattle.clap.specs.Facts.{explicit_source, parser_of_value, unwrap_or_range}
use Rattle.clap.specs.Walk.{Held, Names, Row, Rule, Step, Text, Waiting, Walk, action_of, answers_to, arg_by_id, arg_by_index, arg_by_long}
use Rattle.clap.specs.Walk.{arg_by_short, attached_value, finished, has_row, is_pending, most_values, nothing_held, reacted, settled}
use Rattle.clap.specs.Walk.{subcommand_met, takes_several, takes_values, value, next, trailing, subcommand, values_or_missing, walk}
use Rattle.clap.specs.Walk.{walk_from, walked, word_met}
use Rattle.clap.specs.Simple.{App, Shape, argument_words, built, entered, is_simple, label_of, names_of}
use Rattle.clap.specs.Takes.{action_passes, bundle_passes, bundle_step_passes, count_passes, default_passes, entered_passes}
use Rattle.clap.specs.Takes.{flag_word_passes, flags_pass, is_given, is_valid, level_passes, long_passes, option_passes, other_passes}
use Rattle.clap.specs.Takes.{positional_passes, react_passes, set_passes, settle_passes, short_passes, step_passes, takes, turn_passes}
use Rattle.clap.specs.Takes.{use_passes, value_passes, values_pass, walk_passes, word_passes}
use Rattle.clap.specs.Kinds.{Kinds, check_kinds, or_else, range_kinds, value_kinds}
use Rattle.clap.specs.Faults.{action_fault, bundle_fault, bundle_step_fault, check_fault, count_fault, defaults_fault, entered_fault}
use Rattle.clap.specs.Faults.{fault_of, flag_word_fault, flags_fault, level_fault, long_fault, option_fault, other_fault, positional_fault}
use Rattle.clap.specs.Faults.{react_fault, repeat_fault, set_fault, settle_fault, short_fault, step_fault, stray_fault, turn_fault}
use Rattle.clap.specs.Faults.{use_fault, values_fault, walk_fault, word_fault}
use Rattle.clap.specs.declared.builder.action.ArgAction.{ArgAction}
use Rattle.clap.specs.declared.builder.action.ArgAction.TheVariants as action
use Rattle.clap.specs.declared.error.kind.ErrorKind.{ErrorKind}
use Rattle.clap.specs.declared.error.kind.ErrorKind.TheVariants.{InvalidSubcommand, TooManyValues, UnknownArgument}

-- ---- lists of kinds, and tests

some_kind : (k : ErrorKind) (ks : Kinds) → (k ∷ ks) ≡ [] → ⊥
some_kind k ks e = let n = ap length e in omega arith

no_kind : (a b : Kinds) → or_else a b ≡ [] → (a ≡ []) × (b ≡ [])
no_kind [] b e = (refl, e)
no_kind (k ∷ ks) b e = absurd (some_kind k ks e)

-- a kind comes unless b, or where b
unless : (b : Bool) (k : ErrorKind) (ks : Kinds) → cond b [] (k ∷ ks) ≡ [] → b ≡ true
unless true k ks e = refl
unless false k ks e = absurd (some_kind k ks e)

when : (b : Bool) (k : ErrorKind) (ks rest : Kinds) → cond b (k ∷ ks) rest ≡ [] → (b ≡ false) × (rest ≡ [])
when true k ks rest e = absurd (some_kind k ks e)
when false k ks rest e = (refl, e)

both : (a b : Bool) → a ≡ true → b ≡ true → (a && b) ≡ true
both true b x y = y
both false b x y = x

parts : (a b : Bool) → (a && b) ≡ true → (a ≡ true) × (b ≡ true)
parts true b e = (refl, e)
parts false b e = absurd (true≢false (sym e))

either : (b : Bool) (ks : Kinds) (p : Bool) → (ks ≡ [] → p ≡ true) → cond b [] ks ≡ [] → (b || p) ≡ true
either true ks p h e = refl
either false ks p h e = h e

allowed : (a b : Bool) (k : ErrorKind) (ks : Kinds) → cond (a && not b) (k ∷ ks) [] ≡ [] → (not a || b) ≡ true
allowed false b k ks e = refl
allowed true true k ks e = refl
allowed true false k ks e = absurd (some_kind k ks e)

-- ---- one use of an argument

passing : (a : Rule) (vs : List Text) → values_fault a vs ≡ [] → values_pass a vs ≡ true
passing a [] e = refl
passing a (v ∷ vs) e =
    let p = no_kind (value_kinds a.ignore_case (parser_of_value a.parser) v) _ e in
    both (value_passes a v) (values_pass a vs) (unless _ _ _ p.0) (passing a vs p.1)

in_range : (least most n : ℕ) → range_kinds least most n ≡ [] → (least ≤ n) × (n ≤ most)
in_range least most n e = grind (arith, nat_tests, e)

set : (again : Bool) (a : Rule) (vs : List Text) (rows : List Row) → set_fault again a vs rows ≡ [] → set_passes again a vs rows ≡ true
set again a vs rows e =
    let p = no_kind (repeat_fault again a.id rows) _ e in
    both (not (has_row a.id rows) || again) _ (allowed (has_row a.id rows) again _ _ p.0) (passing a vs p.1)

count : (a : Rule) (vs : List Text) (rows : List Row) → count_fault a vs rows ≡ [] → count_passes a vs rows ≡ true
count a [] rows e = unless _ _ _ e
count a (v ∷ vs) rows e = passing a (v ∷ vs) e

act : (x : ArgAction) (again : Bool) (a : Rule) (vs : List Text) (rows : List Row) → action_fault x again a vs rows ≡ [] →
    action_passes x again a vs rows ≡ true
act action.Set again a vs rows e = set again a vs rows e
act action.Append again a vs rows e = passing a vs e
act action.SetTrue again a vs rows e = set again a vs rows e
act action.SetFalse again a vs rows e = set again a vs rows e
act action.Count again a vs rows e = count a vs rows e
act action.Help again a vs rows e = absurd (some_kind _ _ e)
act action.HelpShort again a vs rows e = absurd (some_kind _ _ e)
act action.HelpLong again a vs rows e = absurd (some_kind _ _ e)
act action.Version again a vs rows e = absurd (some_kind _ _ e)

used : (again : Bool) (a : Rule) (vs : List Text) (rows : List Row) → use_fault again a vs rows ≡ [] → use_passes again a vs rows ≡ true
used again a vs rows e =
    let least = (unwrap_or_range a.range).start_inclusive in
    let p = no_kind (range_kinds least (most_values a) (length vs)) _ e in
    let r = in_range least (most_values a) (length vs) p.0 in
    let acts = act (action_of a) again a (values_or_missing a vs) rows p.1 in
    grind (arith, nat_tests, r, acts)

-- ---- the walk

used_by : (again : Bool) (o : Option Rule) (vs : List Text) (rows : List Row) → option_map_or (λ a. use_fault again a vs rows) o [] ≡ []
    → option_map_or (λ a. use_passes again a vs rows) o true ≡ true
used_by again None vs rows e = refl
used_by again (Some a) vs rows e = used again a vs rows e

settle : (c : List Rule) (again : Bool) (h : Held) → settle_fault c again h ≡ [] → settle_passes c again h ≡ true
settle c again h e = go h.pending e
  where
    go : (o : Option (Text × List Text)) →
        option_map_or (λ p. option_map_or (λ a. use_fault again a p.1 h.rows) (arg_by_id c p.0) []) o [] ≡ []
        → option_map_or (λ p. option_map_or (λ a. use_passes again a p.1 h.rows) (arg_by_id c p.0) true) o true ≡ true
    go None e = refl
    go (Some p) e = used_by again (arg_by_id c p.0) p.1 h.rows e

react : (c : List Rule) (again : Bool) (a : Rule) (vs : List Text) (h : Held) → react_fault c again a vs h ≡ [] →
    react_passes c again a vs h ≡ true
react c again a vs h e =
    let p = no_kind (settle_fault c again h) _ e in
    both (settle_passes c again h) _ (settle c again h p.0) (used again a vs (settled c h).rows p.1)

option : (c : List Rule) (again : Bool) (a : Rule) (v : Option Text) (h : Held) → option_fault c again a v h ≡ [] →
    option_passes c again a v h ≡ true
option c again a (Some v) h e = react c again a (v ∷ []) h e
option c again a None h e = settle c again h e

long : (c : List Rule) (again : Bool) (o : Option Rule) (v : Option Text) (h : Held) → long_fault c again o v h ≡ [] →
    long_passes c again o v h ≡ true
long c again None v h e = absurd (some_kind _ _ e)
long c again (Some a) v h e = go (takes_values a) v e
  where
    go : (b : Bool) (v : Option Text) →
        cond b (option_fault c again a v h) (cond (is_some v) (TooManyValues ∷ []) (react_fault c again a [] h)) ≡ []
        → cond b (option_passes c again a v h) (not (is_some v) && react_passes c again a [] h) ≡ true
    go true v e = option c again a v h e
    go false None e = react c again a [] h e
    go false (Some v) e = absurd (some_kind _ _ e)

short : (c : List Rule) (again : Bool) (o : Option Rule) (rest : Text) (h : Held) (faults : Held → Kinds) (passes : Held → Bool)
    → ((x : Held) → faults x ≡ [] → passes x ≡ true) → short_fault c again o rest h faults ≡ [] →
    short_passes c again o rest h passes ≡ true
short c again None rest h faults passes k e = absurd (some_kind _ _ e)
short c again (Some a) rest h faults passes k e = go (takes_values a) e
  where
    go : (b : Bool) → cond b (option_fault c again a (attached_value rest) h)
        (or_else (react_fault c again a [] h) (faults (reacted c a [] h))) ≡ []
        → cond b (option_passes c again a (attached_value rest) h) (react_passes c again a [] h && passes (reacted c a [] h)) ≡ true
    go true e = option c again a (attached_value rest) h e
    go false e =
        let p = no_kind (react_fault c again a [] h) _ e in
        both (react_passes c again a [] h) _ (react c again a [] h p.0) (k (reacted c a [] h) p.1)

bundle_step : (c : List Rule) (again : Bool) (o : Option ℕ) (flags : Text) (skip : ℕ) (h : Held) (faults : Text → ℕ → Held → Kinds)
    (passes : Text → ℕ → Held → Bool)
    → ((t : Text) (n : ℕ) (x : Held) → faults t n x ≡ [] → passes t n x ≡ true) → bundle_step_fault c again o flags skip h faults ≡ []
    → bundle_step_passes c again o flags skip h passes ≡ true
bundle_step c again None flags skip h faults passes k e = refl
bundle_step c again (Some x) flags zero h faults passes k e =
    let rest = drop (length (encode_utf8 x)) flags in
    short c again (arg_by_short c x) rest h (faults rest 0) (passes rest 0) (k rest 0) e
bundle_step c again (Some x) flags (suc skip) h faults passes k e = k (drop (length (encode_utf8 x)) flags) skip h e

flags : (c : List Rule) (again : Bool) (k : ℕ) (text : Text) (skip : ℕ) (h : Held) → flags_fault c again k text skip h ≡ [] →
    flags_pass c again k text skip h ≡ true
unfolding flags_fault flags_pass
flags c again zero text skip h e = refl
flags c again (suc k) text skip h e =
    bundle_step c again (slice_get (chars text) 0) text skip h (flags_fault c again k) (flags_pass c again k) (flags c again k) e

flag_word : (c : List Rule) (again : Bool) (o : Option (Text × Option Text)) (word : Text) (h : Held) →
    flag_word_fault c again o word h ≡ []
    → flag_word_passes c again o word h ≡ true
flag_word c again (Some p) word h e = long c again (arg_by_long c p.0) p.1 h e
flag_word c again None word h e = go (short_of word) e
  where
    go : (o : Option Text) → option_map_or (λ flags. bundle_fault c again flags h) o [] ≡ [] →
        option_map_or (λ flags. bundle_passes c again flags h) o true ≡ true
    go None e = refl
    go (Some text) e = flags c again (length text) text h.skip (record h { skip = 0 }) e

other : (s : Shape) (o : Option Text) (word : Text) (h : Held) → other_fault s o word h ≡ [] → other_passes s o word h ≡ true
other s (Some name) word h e = allowed (bytes_eq name (codes "help")) s.disable_help_subcommand _ _ e
other s None word h e = either (bytes_eq word (45 ∷ 45 ∷ [])) _ _ (flag_word s.rules s.args_override_self (long_of word) word h) e

met_word : (s : Shape) (names : Names) (is_trailing : Bool) (waiting : Waiting) (word : Text) (h : Held) →
    word_fault s names is_trailing waiting word h ≡ []
    → word_passes s names is_trailing waiting word h ≡ true
met_word s names is_trailing waiting word h e = either is_trailing _ _ (other s (subcommand_met names waiting word) word h) e

positional : (c : List Rule) (again : Bool) (a : Rule) (h : Held) → positional_fault c again a h ≡ [] → positional_passes c again a h ≡ true
positional c again a h e = either (is_pending a h.pending && takes_several a) _ _ (settle c again h) e

stray : (s : Shape) → stray_fault s ≡ [] → ⊥
stray s e = go s.is_leaf e
  where
    go : (b : Bool) → cond b (UnknownArgument ∷ []) (UnknownArgument ∷ InvalidSubcommand ∷ []) ≡ [] → ⊥
    go true e = some_kind _ _ e
    go false e = some_kind _ _ e

step : (s : Shape) (position : ℕ) (h : Held) (x : Step) → step_fault s position h x ≡ [] → step_passes s position h x ≡ true
step s position h (next waiting) e = refl
step s position h (trailing n) e = refl
step s position h (subcommand name) e = refl
step s position h value e = go (arg_by_index s.rules position) e
  where
    go : (o : Option Rule) → option_map_or (λ a. positional_fault s.rules s.args_override_self a h) o (stray_fault s) ≡ []
        → option_map_or (λ a. positional_passes s.rules s.args_override_self a h) o false ≡ true
    go None e = absurd (stray s e)
    go (Some a) e = positional s.rules s.args_override_self a h e

turn : (s : Shape) (names : Names) (w : Walk) (word : Text) → turn_fault s names w word ≡ [] → turn_passes s names w word ≡ true
turn s names w word e = either (is_some w.stopped) _ _ (λ e.
    let p = no_kind (word_fault s names w.is_trailing w.waiting word w.held) _ e in
    let met = word_met s.rules names w.is_trailing w.waiting w.position word w.held in
    both (word_passes s names w.is_trailing w.waiting word w.held) _ (met_word s names w.is_trailing w.waiting word w.held p.0)
    (step s w.position met.0 met.1 p.1)) e

steps : (s : Shape) (names : Names) (w : Walk) (words : List Text) → walk_fault s names w words ≡ [] → walk_passes s names w words ≡ true
unfolding walk_fault walk_passes
steps s names w [] e = refl
steps s names w (word ∷ rest) e =
    let p = no_kind (turn_fault s names w word) _ e in
    both (turn_passes s names w word) _ (turn s names w word p.0) (steps s names (walked s.rules names w word) rest p.1)

-- ---- after the walk

there : (given : Rule → Bool) (rules : List Rule) → list_any (λ a. a.required && not (given a)) rules ≡ false →
    list_all (λ a. not a.required || given a) rules ≡ true
there given [] e = refl
there given (a ∷ rest) e = go a.required (given a) (there given rest) e
  where
    go : (r g : Bool) → (list_any (λ a. a.required && not (given a)) rest ≡ false → list_all (λ a. not a.required || given a) rest ≡ true)
        → ((r && not g) || list_any (λ a. a.required && not (given a)) rest) ≡ false
        → ((not r || g) && list_all (λ a. not a.required || given a) rest) ≡ true
    go false g h e = h e
    go true true h e = h e
    go true false h e = absurd (true≢false e)

valid_tests : (has are any required negates lacks free all : Bool) →
    check_kinds (not has && (are && not any)) (not has && required) (not (negates && has) && lacks) ≡ []
    → free ≡ true → (lacks ≡ false → all ≡ true) →
    ((not are || (has || any)) && ((not required || has) && (free && ((negates && has) || all)))) ≡ true
valid_tests has are any required negates lacks free all e f h =
    let p = when (not has && (are && not any)) _ _ _ e in
    let q = when (not has && required) _ _ _ p.1 in
    let r = when (not (negates && has) && lacks) _ _ _ q.1 in
    go has are any required negates lacks free all p.0 q.0 r.0 f h
  where
    go : (has are any required negates lacks free all : Bool) → (not has && (are && not any)) ≡ false → (not has && required) ≡ false
        → (not (negates && has) && lacks) ≡ false → free ≡ true → (lacks ≡ false → all ≡ true)
        → ((not are || (has || any)) && ((not required || has) && (free && ((negates && has) || all)))) ≡ true
    go has are any required negates lacks free all p q r f h = grind (arith, p, q, r, f, h)

valid : (s : Shape) (rows : List Row) (has : Bool) → list_all (λ a. a.is_free) s.rules ≡ true → check_fault s rows has ≡ [] →
    is_valid s rows has ≡ true
valid s rows has free e =
    valid_tests has s.arg_required_else_help (list_any (λ r. explicit_source r.source) rows) s.subcommand_required s.subcommand_negates_reqs
    (list_any (λ a. a.required && not (is_given a.id rows)) s.rules) (list_all (λ a. a.is_free) s.rules)
    (list_all (λ a. not a.required || is_given a.id rows) s.rules)
    e free (there (λ a. is_given a.id rows) s.rules)

-- whether no argument has a rule on another, and each default passes
abbrev pub has_free_rules : Shape → Bool
has_free_rules s = list_all (λ a. a.is_free) s.rules && list_all default_passes s.rules

level : (s : Shape) (names : Names) (h : Held) (words : List Text) (has : Bool) (below : Kinds) → has_free_rules s ≡ true →
    level_fault s names h words has below ≡ []
    → (level_passes s names h words has ≡ true) × (below ≡ [])
level s names h words has below fine e =
    let end = (walk s.rules names h words).held in
    let p = no_kind (walk_fault s names (walk_from h) words) _ e in
    let q = no_kind below _ p.1 in
    let r = no_kind (settle_fault s.rules s.args_override_self end) _ q.1 in
    let t = no_kind (defaults_fault (settled s.rules end).rows s.rules) _ r.1 in
    let free = parts (list_all (λ a. a.is_free) s.rules) _ fine in (
      both (walk_passes s names (walk_from h) words) _ (steps s names (walk_from h) words p.0)
          (both (settle_passes s.rules s.args_override_self end) _ (settle s.rules s.args_override_self end r.0)
          (both (list_all default_passes s.rules) _ free.1 (valid s (finished s.rules end) has free.0 t.1))),
      q.0,
    )

abbrev Fits : List Text → Option Shape → Type 0
Fits words o = option_map_or (λ s. level_fault s [] nothing_held words false []) o [] ≡ []
    → option_map_or (λ s. level_passes s [] nothing_held words false) o true ≡ true

first_of_two : (words : List Text) (b : Bool) (o p : Option Shape) → Fits words o → Fits words p → Fits words (cond b o p)
first_of_two words true o p here below = here
first_of_two words false o p here below = below

found : (test : Shape → Bool) (subs : List Shape) (words : List Text) → list_all has_free_rules subs ≡ true → Fits words (find test subs)
found test [] words fine = λ e. refl
found test (s ∷ rest) words fine =
    let p = parts (has_free_rules s) (list_all has_free_rules rest) fine in
    first_of_two words (test s) (Some s) (find test rest) (λ h. (level s [] nothing_held words false [] p.0 h).0)
    (found test rest words p.1)

entered_below : (a : App) (stop : Option (Text × List Text)) → list_all has_free_rules a.subs ≡ true → entered_fault a stop ≡ [] →
    entered_passes a stop ≡ true
entered_below a None fine e = refl
entered_below a (Some p) fine e = found (λ s. answers_to p.0 (label_of s)) a.subs p.1 fine e

pub taken : (a : App) (words : List Text) → is_simple a ≡ true → has_free_rules (built a).top ≡ true → list_all has_free_rules (built a).subs ≡ true →
    fault_of a words ≡ []
    → takes a words ≡ true
taken a words simple top subs e =
    let b = built a in
    let w = argument_words a words in
    let stop = (walk b.top.rules (names_of b) nothing_held w).stopped in
    let l = level b.top (names_of b) nothing_held w (is_some (entered b stop)) (entered_fault b stop) top e in
    both (is_simple a) _ simple (both (entered_passes b stop) _ (entered_below b stop subs l.1) l.0)
