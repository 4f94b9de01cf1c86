-- Laws of pieces.
use Rattle.std.proofs.Common.{◌≡◌, ℕ, List, [], ◌∷◌, ◌++◌, take, length, refl, ap, sym, ◌∙◌, append_assoc, append-nil, arith}
use Rattle.std.proofs.lemmas.Bool.Decides.{nat_tests}
use Rattle.std.specs.Prelude.{Option, Some, None, nat_eq, true, false}
use Rattle.sn_io.specs.Outside.{followed_by}
use Rattle.sink_pieces.specs.Pieces.{Piece, Console, Report, console_text, report_text, first_bytes, Ends, ends, after, Breaks}
use Rattle.sink_pieces.specs.Pieces.{console_piece}

pub console_text-append : (ps qs : List Piece) → console_text (ps ++ qs) ≡ console_text ps ++ console_text qs
console_text-append [] qs = refl
console_text-append (Console bytes ∷ ps) qs =
    ap (λ t. bytes ++ t) (console_text-append ps qs) ∙ sym (append_assoc bytes (console_text ps) (console_text qs))
console_text-append (Report bytes ∷ ps) qs = console_text-append ps qs

pub report_text-append : (ps qs : List Piece) → report_text (ps ++ qs) ≡ report_text ps ++ report_text qs
report_text-append [] qs = refl
report_text-append (Console bytes ∷ ps) qs = report_text-append ps qs
report_text-append (Report bytes ∷ ps) qs =
    ap (λ t. bytes ++ t) (report_text-append ps qs) ∙ sym (append_assoc bytes (report_text ps) (report_text qs))

pub followed_by-append : (w : Option (List ℕ)) (xs ys : List ℕ) → followed_by (followed_by w xs) ys ≡ followed_by w (xs ++ ys)
followed_by-append None xs ys = refl
followed_by-append (Some w) xs ys = ap (λ t. Some t) (append_assoc w xs ys)

pub followed_by-nil : (w : Option (List ℕ)) → followed_by w [] ≡ w
followed_by-nil None = refl
followed_by-nil (Some w) = ap (λ t. Some t) (append-nil w)

pub after-append : (e : Ends) (ps qs : List Piece) → after (after e ps) qs ≡ after e (ps ++ qs)
unfolding after
after-append e ps qs =
    rw (console_text-append, report_text-append, followed_by-append, followed_by-append)

pub after-nil : (e : Ends) → after e [] ≡ e
unfolding after
after-nil e = rw (followed_by-nil, followed_by-nil)

-- what breaks the first pieces breaks the whole
pub Breaks-more : (ps qs : List Piece) (e b : Ends) → Breaks ps e b → Breaks (ps ++ qs) e b
Breaks-more ps qs e b h = record {
  whole = h.whole;
  piece = h.piece;
  rest = h.rest ++ qs;
  count = h.count;
  all = ap (λ t. t ++ qs) h.all ∙ append_assoc h.whole (h.piece ∷ h.rest) qs;
  put = h.put;
}

-- what breaks the others, after the first were put, breaks the whole
pub Breaks-after : (ps qs : List Piece) (e b : Ends) → Breaks qs (after e ps) b → Breaks (ps ++ qs) e b
Breaks-after ps qs e b h = record {
  whole = ps ++ h.whole;
  piece = h.piece;
  rest = h.rest;
  count = h.count;
  all = ap (λ t. ps ++ t) h.all ∙ sym (append_assoc ps h.whole (h.piece ∷ h.rest));
  put =
      h.put ∙ after-append e ps (h.whole ++ first_bytes h.count h.piece ∷ [])
      ∙ ap (after e) (sym (append_assoc ps h.whole (first_bytes h.count h.piece ∷ [])));
}

after-console : (w v r : Option (List ℕ)) (bytes : List ℕ) → v ≡ followed_by w bytes → ends v r ≡ after (ends w r) (Console bytes ∷ [])
unfolding after
after-console w v r bytes e = rw (append-nil, followed_by-nil r) (ap (λ t. ends t r) e)

-- a piece of the report that is put
pub after-report : (c w v : Option (List ℕ)) (bytes : List ℕ) → v ≡ followed_by w bytes → ends c v ≡ after (ends c w) (Report bytes ∷ [])
unfolding after
after-report c w v bytes e = rw (append-nil, followed_by-nil c) (ap (λ t. ends c t) e)

-- a text for the console that is put, where there is any
pub after-console_piece : (w v r : Option (List ℕ)) (bytes : List ℕ) → v ≡ followed_by w bytes →
    ends v r ≡ after (ends w r) (console_piece bytes)
after-console_piece w v r [] e = ap (λ t. ends t r) (e ∙ followed_by-nil w) ∙ sym (after-nil (ends w r))
after-console_piece w v r (byte ∷ bytes) e = after-console w v r (byte ∷ bytes) e

pub after-empty : (e : Ends) (bytes : List ℕ) → nat_eq (length bytes) 0 ≡ true → e ≡ after e (console_piece bytes)
after-empty e [] empty = sym (after-nil e)
after-empty e (byte ∷ bytes) empty = absurd (grind (arith, nat_tests))

-- a piece that is put in part
pub Breaks-console_piece : (w v r : Option (List ℕ)) (bytes : List ℕ) (n : ℕ) → nat_eq (length bytes) 0 ≡ false →
    v ≡ followed_by w (take n bytes) → Breaks (console_piece bytes) (ends w r) (ends v r)
Breaks-console_piece w v r [] n some e = cc
Breaks-console_piece w v r (byte ∷ bytes) n some e = record {
  whole = [];
  piece = Console (byte ∷ bytes);
  rest = [];
  count = n;
  all = refl;
  put = after-console w v r (take n (byte ∷ bytes)) e;
}

pub Breaks-report : (c w v : Option (List ℕ)) (bytes : List ℕ) (n : ℕ) → v ≡ followed_by w (take n bytes) →
    Breaks (Report bytes ∷ []) (ends c w) (ends c v)
Breaks-report c w v bytes n e = record {
  whole = [];
  piece = Report bytes;
  rest = [];
  count = n;
  all = refl;
  put = after-report c w v (take n bytes) e;
}
