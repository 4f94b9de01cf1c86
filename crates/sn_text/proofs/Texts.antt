-- How the definitions of lists of lines go on.
use Rattle.std.proofs.Common.{◌≡◌, ℕ, ◌+◌, ◌<◌, ◌≤◌, List, ◌++◌, drop, length, get_or, sym, append_assoc, append-nil}
use Rattle.std.specs.Prelude.{nat_eq, true, false}
use Rattle.std.proofs.lemmas.List.{drop_more, drop_all}
use Rattle.sn_model.specs.declared.net.Sent.{Sent}
use Rattle.sn_text.specs.Text.{sent_line, sent_lines, register_text, registers_text}

pub sent_lines-more : (text : List ℕ) (sent : List Sent) (i : ℕ) (other : Sent) → i < length sent →
    text ++ sent_lines (drop i sent) ≡ (text ++ sent_line (get_or sent i other)) ++ sent_lines (drop (i + 1) sent)
unfolding sent_lines
sent_lines-more text sent i other b =
    rw (drop_more sent i other b) (sym (append_assoc text (sent_line (get_or sent i other)) (sent_lines (drop (i + 1) sent))))

pub sent_lines-end : (text : List ℕ) (sent : List Sent) (i : ℕ) → length sent ≤ i → text ++ sent_lines (drop i sent) ≡ text
unfolding sent_lines
sent_lines-end text sent i past = rw (drop_all i sent past) (append-nil text)

-- a register that isn't 0
pub registers-more : (text : List ℕ) (values : List ℕ) (i : ℕ) → i < length values → nat_eq (get_or values i 0) 0 ≡ false →
    text ++ registers_text (i + 1) (drop i values) ≡ (text ++ register_text (i + 1) (get_or values i 0))
    ++ registers_text (i + 1 + 1) (drop (i + 1) values)
registers-more text values i b other =
    rw (drop_more values i 0 b, other)
    (sym (append_assoc text (register_text (i + 1) (get_or values i 0)) (registers_text (i + 1 + 1) (drop (i + 1) values))))

-- a register that is
pub registers-skip : (text : List ℕ) (values : List ℕ) (i : ℕ) → i < length values → nat_eq (get_or values i 0) 0 ≡ true →
    text ++ registers_text (i + 1) (drop i values) ≡ text ++ registers_text (i + 1 + 1) (drop (i + 1) values)
registers-skip text values i b same = rw (drop_more values i 0 b, same)

pub registers-end : (text : List ℕ) (values : List ℕ) (i : ℕ) → length values ≤ i → text ++ registers_text (i + 1) (drop i values) ≡ text
registers-end text values i past = rw (drop_all i values past) (append-nil text)
