-- The format of a page data set: the number of slots and the page size, 4 bytes each, a mark byte for each slot, then
-- 2,048 bytes for each slot. Mark 0 is blank, 1 written, 2 bad.
use Rattle.std.specs.Prelude.{◌≡◌, ℕ, zero, suc, ◌+◌, ◌*◌, ◌<◌, ◌≤◌, Bool, true, false, cond, ◌&&◌, List, length, replicate, is_ok, Some, None, Ok, Err, Option, Result, ◌==◌, nat_le, nat_lt, slice_index, slice_set}
use Rattle.pages.specs.declared.fault.Fault.{Fault}
use Rattle.pages.specs.declared.fault.StoreRefusal.{StoreRefusal}
use Rattle.pages.specs.Store.{Rules}
use Rattle.storage.specs.Bytes.{word, page, put_page, put_word, zeros}
use Rattle.dataset.specs.declared.refusal.OpenRefusal.{OpenRefusal}
use Rattle.dataset.specs.declared.refusal.OpenRefusal.TheVariants.{TooShort, OtherPageSize, TooManySlots, OtherLength, UnknownMark}
use Rattle.dataset.specs.declared.refusal.BlankRefusal.{BlankRefusal}
use Rattle.dataset.specs.declared.refusal.BlankRefusal.TheVariants.{TooManySlots as TooManyAsked, NoMemory}
use Rattle.dataset.specs.declared.refusal.MarkRefusal.{MarkRefusal}
use Rattle.dataset.specs.declared.refusal.MarkRefusal.TheVariants.{NoSuchSlot, NotDataSet}

-- The mark of a slot.
abbrev pub mark_of : List ℕ → ℕ → ℕ
mark_of bytes k = slice_index bytes (8 + k)

-- Whether each of the first n marks is 0, 1 or 2.
unfoldable pub marks_known : List ℕ → ℕ → Bool
marks_known bytes zero = true
marks_known bytes (suc n) = cond (nat_lt (mark_of bytes n) 3) (marks_known bytes n) false

-- What opening an area finds: its number of slots, or the first reason why it is no page data set.
unfoldable pub opened : List ℕ → Result ℕ OpenRefusal
opened bytes =
    cond (nat_le 8 (length bytes))
    (cond (word bytes 4 == 2048)
    (cond (nat_le (word bytes 0) 8192)
    (cond (length bytes == 8 + word bytes 0 + 2048 * word bytes 0)
    (cond (marks_known bytes (word bytes 0)) (Ok (word bytes 0)) (Err UnknownMark))
    (Err OtherLength))
    (Err TooManySlots))
    (Err OtherPageSize))
    (Err TooShort)

-- Whether an area is a page data set.
abbrev pub is_data_set : List ℕ → Bool
is_data_set bytes = is_ok (opened bytes)

-- The same as a list of facts, with no order among them.
pub record Formed (bytes : List ℕ) : Type 0 where
  pub size : word bytes 4 ≡ 2048
  pub few : word bytes 0 ≤ 8192
  pub long : length bytes ≡ 8 + word bytes 0 + 2048 * word bytes 0
  pub marks : (k : ℕ) → k < word bytes 0 → mark_of bytes k < 3

-- The slots of an area that was opened: none where it was refused.
abbrev pub slots_of : Result ℕ OpenRefusal → ℕ
slots_of (Ok n) = n
slots_of (Err why) = 0

abbrev pub slots_in : List ℕ → ℕ
slots_in bytes = slots_of (opened bytes)

-- Why an area was refused.
abbrev pub why_not : Result ℕ OpenRefusal → Option OpenRefusal
why_not (Ok n) = None
why_not (Err why) = Some why

-- Where the bytes of a slot begin.
abbrev pub place_of : List ℕ → ℕ → ℕ
place_of bytes k = 8 + slots_in bytes + 2048 * k

-- A fault of kind 2.
abbrev pub set_fault : StoreRefusal → ℕ → Fault
set_fault why k = record { refusal = why; kind = 2; slot = k; cause = None }

-- The meaning of a data set is its bytes. A blank slot reads as zeros whatever its bytes are, and a write marks its slot.
abbrev pub set_rules : Rules (List ℕ)
set_rules = record {
  good = λ bytes. Unit {0};
  count = λ bytes. slots_in bytes;
  bad = λ bytes k. nat_lt k (slots_in bytes) && (mark_of bytes k == 2);
  slot = λ bytes k. cond (mark_of bytes k == 1) (page bytes (place_of bytes k)) zeros;
  write = λ bytes k p. put_page (slice_set bytes (8 + k) 1) (place_of bytes k) p;
  fault = λ bytes why k. set_fault why k;
}

-- What the test of a slot finds: the mark of one that can be read and written, or the fault.
abbrev pub checked : List ℕ → ℕ → Option StoreRefusal → Result ℕ Fault
checked bytes k None = Ok (mark_of bytes k)
checked bytes k (Some why) = Err (set_fault why k)

-- The bytes of a data set of n blank slots.
unfoldable pub blank_set : ℕ → List ℕ
blank_set n = put_word (put_word (replicate (8 + n + 2048 * n) 0) 0 n) 4 2048

-- A data set of n slots, each of them blank: good, and read as zeros.
pub record Blank (n : ℕ) (bytes : List ℕ) : Type 0 where
  pub accepted : opened bytes ≡ Ok n
  pub marks : (k : ℕ) → k < n → mark_of bytes k ≡ 0
  pub good : (k : ℕ) → k < n → set_rules.bad bytes k ≡ false
  pub zero_pages : (k : ℕ) → k < n → set_rules.slot bytes k ≡ zeros

-- When each refusal to make one holds.
abbrev pub blank_refused : ℕ → BlankRefusal → Type 0
blank_refused n TooManyAsked = 8192 < n
blank_refused n NoMemory = n ≤ 8192

-- A mark byte put into a data set, and what opening it again answers.
abbrev pub marked : List ℕ → ℕ → ℕ → List ℕ
marked bytes k v = cond (nat_lt k (slots_in bytes)) (slice_set bytes (8 + k) v) bytes

abbrev pub reopened : Result ℕ OpenRefusal → Result (Unit {0}) MarkRefusal
reopened (Ok n) = Ok tt
reopened (Err why) = Err (NotDataSet why)

abbrev pub mark_answer : List ℕ → ℕ → ℕ → Result (Unit {0}) MarkRefusal
mark_answer bytes k v = cond (nat_lt k (slots_in bytes)) (reopened (opened (slice_set bytes (8 + k) v))) (Err NoSuchSlot)

-- What marking a slot bad answers.
abbrev pub bad_answer : List ℕ → ℕ → Result (Unit {0}) Fault
bad_answer bytes k = cond (nat_lt k (slots_in bytes)) (Ok tt) (Err (set_fault StoreRefusal.NoSuchSlot k))
