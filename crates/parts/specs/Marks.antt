-- What an operator sees of a page store, and changes in it before the machine starts.
use Rattle.std.specs.Prelude.{ℕ, cond, List, Some, None, Option, Result, Vec, nat_lt}
use Rattle.std.specs.declared.alloc.Global.{Global}
use Rattle.dataset.specs.Format.{bad_answer, mark_answer, mark_of, marked, opened, slots_in, why_not}
use Rattle.dataset.specs.declared.refusal.MarkRefusal.{MarkRefusal}
use Rattle.dataset.specs.declared.refusal.OpenRefusal.{OpenRefusal}
use Rattle.pages.specs.declared.fault.Fault.{Fault}

pub record Marks (S : Type 0) : Type 0 where
  -- the bytes of a store, as they are saved
  pub area : S → List ℕ
  -- why opening refused them, if it did
  pub refused : S → Option OpenRefusal
  -- the mark of a slot, where the slot has one
  pub mark : S → ℕ → Option ℕ
  -- the bytes with a mark of any value at a slot
  pub marked : S → ℕ → ℕ → List ℕ
  -- what it answers where a slot is marked bad, and where a mark of any value is put and the store opened again; nothing
  -- where the kind has no marks
  pub bad : S → ℕ → Option (Result (Unit {0}) Fault)
  pub reopened : S → ℕ → ℕ → Option (Result (Unit {0}) MarkRefusal)

-- A plain area has no marks. Contracts see it as its bytes.
abbrev pub plain_marks : Marks (Vec ℕ Global)
plain_marks = record {
  area = λ v. v.items;
  refused = λ v. None;
  mark = λ v k. None;
  marked = λ v k m. v.items;
  bad = λ v k. None;
  reopened = λ v k m. None;
}

abbrev pub set_marks : Marks (Vec ℕ Global)
set_marks = record {
  area = λ v. v.items;
  refused = λ v. why_not (opened v.items);
  mark = λ v k. cond (nat_lt k (slots_in v.items)) (Some (mark_of v.items k)) None;
  marked = λ v k m. marked v.items k m;
  bad = λ v k. Some (bad_answer v.items k);
  reopened = λ v k m. Some (mark_answer v.items k m);
}
