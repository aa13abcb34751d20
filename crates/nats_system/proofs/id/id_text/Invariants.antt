-- So far the text has letters and digits, and no more than are wanted.
use Rattle.std.proofs.Common.{◌≡◌, ◌≤◌, ◌-◌, true, length, string_bytes}
use Rattle.std.specs.List.{list_all}
use Rattle.nats_names.specs.Names.{is_letter_or_digit}
use Rattle.nats_system.proofs.id.id_text.Given as goal

abbrev pub invariant-letters : goal.invariant-letters
invariant-letters g l = record {
  len : length (string_bytes l.text) ≤ 22;
  all : list_all is_letter_or_digit (string_bytes l.text) ≡ true;
}

abbrev pub decreases-letters : goal.decreases-letters
decreases-letters g l = 22 - length (string_bytes l.text)
