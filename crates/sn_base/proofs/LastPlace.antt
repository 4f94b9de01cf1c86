-- The place of the last entry of a side and block, as a list of entries grows.
use Rattle.std.proofs.Common.{◌≡◌, ℕ, suc, ◌+◌, ◌<◌, Bool, true, false, List, [], ◌∷◌, ◌++◌, Option, Some, length, get_or, take, refl, sym, ap, ◌∙◌, arith}
use Rattle.std.specs.Prelude.{if◌then◌else◌, slice_get}
use Rattle.std.proofs.lemmas.List.{take_more, length-take-le}
use Rattle.std.proofs.lemmas.Option.{get_or_from_slice_get}
use Rattle.sn_base.specs.declared.log.LogEntry.{LogEntry}
use Rattle.sn_base.specs.Entries.{is_about, place_seen, last_place}

push_step : (c d : Bool) (n : ℕ) (o : Option ℕ) → place_seen c (if d then Some n else o) ≡ (if d then Some (suc n) else place_seen c o)
push_step c true n o = grind arith
push_step c false n o = refl

pub last_place-push : (es : List LogEntry) (e : LogEntry) (s : Bool) (b : ℕ) →
    last_place (es ++ e ∷ []) s b ≡ (if is_about s b e then Some (length es) else last_place es s b)
last_place-push [] e s b = refl
last_place-push (f ∷ es) e s b =
    ap (place_seen (is_about s b f)) (last_place-push es e s b)
    ∙ push_step (is_about s b f) (is_about s b e) (length es) (last_place es s b)

-- one more entry
last_place-more : (es : List LogEntry) (i : ℕ) (e : LogEntry) (s : Bool) (b : ℕ) → i < length es → slice_get es i ≡ Some e →
    last_place (take (i + 1) es) s b ≡ (if is_about s b e then Some i else last_place (take i es) s b)
last_place-more es i e s b l h =
    let g : get_or es i e ≡ e = get_or_from_slice_get es i e e h in
    let n : length (take i es) ≡ i = length-take-le i es (omega arith) in
    ap (λ (xs : List LogEntry). last_place xs s b) (take_more es i e l ∙ ap (λ (x : LogEntry). take i es ++ x ∷ []) g)
    ∙ (last_place-push (take i es) e s b
    ∙ ap (λ (p : ℕ). if is_about s b e then Some p else last_place (take i es) s b) n)

-- it is of the side and block
pub last_place-found : (es : List LogEntry) (i : ℕ) (e : LogEntry) (s : Bool) (b : ℕ) (found : Option ℕ) → i < length es →
    slice_get es i ≡ Some e → is_about s b e ≡ true → found ≡ Some i →
    found ≡ last_place (take (i + 1) es) s b
last_place-found es i e s b found l h a f =
    f ∙ sym (last_place-more es i e s b l h ∙ ap (λ (t : Bool). if t then Some i else last_place (take i es) s b) a)

-- it is not
pub last_place-passed : (es : List LogEntry) (i : ℕ) (e : LogEntry) (s : Bool) (b : ℕ) (found was : Option ℕ) → i < length es →
    slice_get es i ≡ Some e → is_about s b e ≡ false → was ≡ last_place (take i es) s b → found ≡ was →
    found ≡ last_place (take (i + 1) es) s b
last_place-passed es i e s b found was l h a k f =
    f ∙ (k ∙ sym (last_place-more es i e s b l h ∙ ap (λ (t : Bool). if t then Some i else last_place (take i es) s b) a))
