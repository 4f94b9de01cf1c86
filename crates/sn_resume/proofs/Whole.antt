-- A save file, from each of its parts on.
use Rattle.std.proofs.Common.{◌≡◌, ℕ, List, ◌++◌, Option, refl, sym, ◌∙◌, append_assoc}
use Rattle.std.specs.Prelude.{flat_map}
use Rattle.sn_saved.specs.Saved.{given_from, owners_at, saved_of}
use Rattle.sn_machine.specs.Machine.{MachineData}
use Rattle.save_text.specs.Text.{head_line, config_line, marks_line, dead_line, dead_switches, owner_line, given_line, record_line, end_line, saved_text}
use Rattle.sn_resume.proofs.Putting.{Whole, Broken, IsLeft, all_left, next_put, next_broken}

abbrev pub text_of : MachineData → List ℕ
text_of m = saved_text (saved_of m.config m.state m.applied)

abbrev pub from_records : MachineData → List ℕ
from_records m = flat_map record_line m.state.committed ++ end_line

abbrev pub from_bytes : MachineData → List ℕ
from_bytes m = flat_map given_line (given_from 0 m.state.processors) ++ from_records m

abbrev pub from_owners : MachineData → List ℕ
from_owners m = flat_map owner_line (owners_at m.state.fabric m.state.fabric.point) ++ from_bytes m

abbrev pub from_switches : MachineData → List ℕ
from_switches m = flat_map dead_line (dead_switches m.state.fabric.net.dead) ++ from_owners m

abbrev pub from_marks : MachineData → List ℕ
from_marks m = marks_line m.state.fabric.point m.state.fabric.net.next_id m.applied ++ from_switches m

abbrev pub from_config : MachineData → List ℕ
from_config m = config_line m.config ++ from_marks m

parts_of : (a b c d e f g h : List ℕ) → a ++ b ++ c ++ d ++ e ++ f ++ g ++ h ≡ a ++ (b ++ (c ++ (d ++ (e ++ (f ++ (g ++ h))))))
parts_of a b c d e f g h =
    append_assoc (a ++ b ++ c ++ d ++ e ++ f) g h
    ∙ append_assoc (a ++ b ++ c ++ d ++ e) f (g ++ h)
    ∙ append_assoc (a ++ b ++ c ++ d) e (f ++ (g ++ h))
    ∙ append_assoc (a ++ b ++ c) d (e ++ (f ++ (g ++ h)))
    ∙ append_assoc (a ++ b) c (d ++ (e ++ (f ++ (g ++ h))))
    ∙ append_assoc a b (c ++ (d ++ (e ++ (f ++ (g ++ h)))))

text_is : (m : MachineData) → text_of m ≡ head_line ++ from_config m
unfolding saved_text
text_is m =
    parts_of head_line (config_line m.config) (marks_line m.state.fabric.point m.state.fabric.net.next_id m.applied)
    (flat_map dead_line (dead_switches m.state.fabric.net.dead)) (flat_map owner_line (owners_at m.state.fabric m.state.fabric.point))
    (flat_map given_line (given_from 0 m.state.processors)) (flat_map record_line m.state.committed) end_line

pub all_of : (m : MachineData) (w : Option (List ℕ)) (n : ℕ) → IsLeft (text_of m) (head_line ++ from_config m) w w n n
all_of m w n = all_left (text_of m) (head_line ++ from_config m) w n (sym (text_is m))

-- each part in turn, put whole or broken off
module _ (m : MachineData) (w0 w1 w2 : Option (List ℕ)) (n0 n1 n2 : ℕ) where
  pub first_put : IsLeft (text_of m) (head_line ++ from_config m) w0 w1 n0 n1 → Whole (head_line) w1 w2 n1 n2 → IsLeft (text_of m) (from_config m) w0 w2 n0 n2
  first_put = next_put (text_of m) (head_line ++ from_config m) head_line (from_config m) w0 w1 w2 n0 n1 n2 refl

  pub first_broken : IsLeft (text_of m) (head_line ++ from_config m) w0 w1 n0 n1 → Broken (head_line) w1 w2 n1 n2 → Broken (text_of m) w0 w2 n0 n2
  first_broken = next_broken (text_of m) (head_line ++ from_config m) head_line (from_config m) w0 w1 w2 n0 n1 n2 refl

  pub config_put : IsLeft (text_of m) (config_line m.config ++ from_marks m) w0 w1 n0 n1 → Whole (config_line m.config) w1 w2 n1 n2 → IsLeft (text_of m) (from_marks m) w0 w2 n0 n2
  config_put = next_put (text_of m) (config_line m.config ++ from_marks m) (config_line m.config) (from_marks m) w0 w1 w2 n0 n1 n2 refl

  pub config_broken : IsLeft (text_of m) (config_line m.config ++ from_marks m) w0 w1 n0 n1 → Broken (config_line m.config) w1 w2 n1 n2 → Broken (text_of m) w0 w2 n0 n2
  config_broken = next_broken (text_of m) (config_line m.config ++ from_marks m) (config_line m.config) (from_marks m) w0 w1 w2 n0 n1 n2 refl

  pub marks_put : IsLeft (text_of m) (marks_line m.state.fabric.point m.state.fabric.net.next_id m.applied ++ from_switches m) w0 w1 n0 n1 → Whole (marks_line m.state.fabric.point m.state.fabric.net.next_id m.applied) w1 w2 n1 n2 → IsLeft (text_of m) (from_switches m) w0 w2 n0 n2
  marks_put = next_put (text_of m) (marks_line m.state.fabric.point m.state.fabric.net.next_id m.applied ++ from_switches m) (marks_line m.state.fabric.point m.state.fabric.net.next_id m.applied) (from_switches m) w0 w1 w2 n0 n1 n2 refl

  pub marks_broken : IsLeft (text_of m) (marks_line m.state.fabric.point m.state.fabric.net.next_id m.applied ++ from_switches m) w0 w1 n0 n1 → Broken (marks_line m.state.fabric.point m.state.fabric.net.next_id m.applied) w1 w2 n1 n2 → Broken (text_of m) w0 w2 n0 n2
  marks_broken = next_broken (text_of m) (marks_line m.state.fabric.point m.state.fabric.net.next_id m.applied ++ from_switches m) (marks_line m.state.fabric.point m.state.fabric.net.next_id m.applied) (from_switches m) w0 w1 w2 n0 n1 n2 refl

  pub switches_put : IsLeft (text_of m) (flat_map dead_line (dead_switches m.state.fabric.net.dead) ++ from_owners m) w0 w1 n0 n1 → Whole (flat_map dead_line (dead_switches m.state.fabric.net.dead)) w1 w2 n1 n2 → IsLeft (text_of m) (from_owners m) w0 w2 n0 n2
  switches_put = next_put (text_of m) (flat_map dead_line (dead_switches m.state.fabric.net.dead) ++ from_owners m) (flat_map dead_line (dead_switches m.state.fabric.net.dead)) (from_owners m) w0 w1 w2 n0 n1 n2 refl

  pub switches_broken : IsLeft (text_of m) (flat_map dead_line (dead_switches m.state.fabric.net.dead) ++ from_owners m) w0 w1 n0 n1 → Broken (flat_map dead_line (dead_switches m.state.fabric.net.dead)) w1 w2 n1 n2 → Broken (text_of m) w0 w2 n0 n2
  switches_broken = next_broken (text_of m) (flat_map dead_line (dead_switches m.state.fabric.net.dead) ++ from_owners m) (flat_map dead_line (dead_switches m.state.fabric.net.dead)) (from_owners m) w0 w1 w2 n0 n1 n2 refl

  pub owners_put : IsLeft (text_of m) (flat_map owner_line (owners_at m.state.fabric m.state.fabric.point) ++ from_bytes m) w0 w1 n0 n1 → Whole (flat_map owner_line (owners_at m.state.fabric m.state.fabric.point)) w1 w2 n1 n2 → IsLeft (text_of m) (from_bytes m) w0 w2 n0 n2
  owners_put = next_put (text_of m) (flat_map owner_line (owners_at m.state.fabric m.state.fabric.point) ++ from_bytes m) (flat_map owner_line (owners_at m.state.fabric m.state.fabric.point)) (from_bytes m) w0 w1 w2 n0 n1 n2 refl

  pub owners_broken : IsLeft (text_of m) (flat_map owner_line (owners_at m.state.fabric m.state.fabric.point) ++ from_bytes m) w0 w1 n0 n1 → Broken (flat_map owner_line (owners_at m.state.fabric m.state.fabric.point)) w1 w2 n1 n2 → Broken (text_of m) w0 w2 n0 n2
  owners_broken = next_broken (text_of m) (flat_map owner_line (owners_at m.state.fabric m.state.fabric.point) ++ from_bytes m) (flat_map owner_line (owners_at m.state.fabric m.state.fabric.point)) (from_bytes m) w0 w1 w2 n0 n1 n2 refl

  pub bytes_put : IsLeft (text_of m) (flat_map given_line (given_from 0 m.state.processors) ++ from_records m) w0 w1 n0 n1 → Whole (flat_map given_line (given_from 0 m.state.processors)) w1 w2 n1 n2 → IsLeft (text_of m) (from_records m) w0 w2 n0 n2
  bytes_put = next_put (text_of m) (flat_map given_line (given_from 0 m.state.processors) ++ from_records m) (flat_map given_line (given_from 0 m.state.processors)) (from_records m) w0 w1 w2 n0 n1 n2 refl

  pub bytes_broken : IsLeft (text_of m) (flat_map given_line (given_from 0 m.state.processors) ++ from_records m) w0 w1 n0 n1 → Broken (flat_map given_line (given_from 0 m.state.processors)) w1 w2 n1 n2 → Broken (text_of m) w0 w2 n0 n2
  bytes_broken = next_broken (text_of m) (flat_map given_line (given_from 0 m.state.processors) ++ from_records m) (flat_map given_line (given_from 0 m.state.processors)) (from_records m) w0 w1 w2 n0 n1 n2 refl

  pub records_put : IsLeft (text_of m) (flat_map record_line m.state.committed ++ end_line) w0 w1 n0 n1 → Whole (flat_map record_line m.state.committed) w1 w2 n1 n2 → IsLeft (text_of m) (end_line) w0 w2 n0 n2
  records_put = next_put (text_of m) (flat_map record_line m.state.committed ++ end_line) (flat_map record_line m.state.committed) end_line w0 w1 w2 n0 n1 n2 refl

  pub records_broken : IsLeft (text_of m) (flat_map record_line m.state.committed ++ end_line) w0 w1 n0 n1 → Broken (flat_map record_line m.state.committed) w1 w2 n1 n2 → Broken (text_of m) w0 w2 n0 n2
  records_broken = next_broken (text_of m) (flat_map record_line m.state.committed ++ end_line) (flat_map record_line m.state.committed) end_line w0 w1 w2 n0 n1 n2 refl
