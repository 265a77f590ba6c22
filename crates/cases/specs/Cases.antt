-- What the worked machine shows, case by case: the figures of Table. Cases A to H are one run; case I starts from the same
-- IPL anew.
use Rattle.std.specs.Prelude.{◌≡◌, ℕ, ◌*◌, List, [], ◌∷◌, ◌++◌, map, replicate, take, Ok, Err, Result, slice_index}
use Rattle.std.specs.Result.{result_map_both}
use Rattle.model.specs.declared.calls.Call.{Call}
use Rattle.model.specs.declared.calls.Reply.{Reply}
use Rattle.model.specs.declared.calls.Refusal as model
use Rattle.model.specs.Ipl.{ipl}
use Rattle.model.specs.Layout.{entry_at, page_in}
use Rattle.model.specs.Steps.{worked}
use Rattle.queues.specs.declared.queue.Queue.{Queue}
use Rattle.queues.specs.declared.queue.Queue.TheVariants.{Q00, Q01, Q10, Q11, Hq}
use Rattle.queues.specs.Five.{Five, size}
use Rattle.queues.specs.Laws.{turns}
use Rattle.queues.specs.Names.{frames_of}
use Rattle.storage.specs.Bytes.{half, word}
use Rattle.tables.specs.declared.Controls.{Controls}
use Rattle.tables.specs.Walk.{number_of, walk}
use Rattle.cases.specs.declared.table.Held.{Held}
use Rattle.cases.specs.declared.table.Row.{Row}
use Rattle.cases.specs.declared.table.Step.{Step}
use Rattle.cases.specs.declared.table.Walk.{Walk}
use Rattle.cases.specs.Table.{answers_i, calls_i, entries_b, entries_e, entries_f, entries_g, on_queue, pageable_frames, row_a, row_of, slot_g, step_of, steps_e, steps_f, steps_g, steps_h, walk_of, walks_c, walks_d, words_a}
use Rattle.cases.specs.Worked.{Machine, after, byte, done, parts, ready, refused, said, sizes, wired}

-- What main storage shows of a table's words and of its entries: each place with the word there, each page with its entry.
abbrev pub words_seen : List (ℕ × ℕ) → Machine → List (ℕ × ℕ)
words_seen rows w = map (λ row. (row.0, word w.storage row.0)) rows

abbrev pub entries_seen : List (ℕ × ℕ) → Machine → List (ℕ × ℕ)
entries_seen rows w = map (λ row. (row.0, half w.storage (entry_at row.0))) rows

-- The machine's control words, and those with another word in the place of control word 0.
abbrev pub controls_of : Machine → Controls
controls_of w = parts.translator.controls w.translator

abbrev pub controls_under : ℕ → Machine → Controls
controls_under word w = record { cr0 = word; cr1 = (controls_of w).cr1 }

-- What walks of a table's addresses give, each with the machine's control words, or with its own control word 0.
abbrev pub walks_seen : List Walk → Machine → List Walk
walks_seen rows w = map (λ row. walk_of row.address (walk w.storage (controls_of w) row.address)) rows

abbrev pub walks_under : List (ℕ × Walk) → Machine → List (ℕ × Walk)
walks_under rows w = map (λ row. (row.0, walk_of row.1.address (walk w.storage (controls_under row.0 w) row.1.address))) rows

-- What a walk is told by: the real address, or the number of the refusal.
abbrev pub walk_told : Walk → Result ℕ ℕ
walk_told row = result_map_both (λ real. real) number_of row.answer

-- The frames that the queues hold, queue by queue.
abbrev pub held_by : Five → Queue → List Held
held_by m q = map (λ f. on_queue q f) (frames_of m q)

abbrev pub held_of : Five → List Held
held_of m = held_by m Q00 ++ held_by m Q01 ++ held_by m Q10 ++ held_by m Q11 ++ held_by m Hq

-- The five queues are told whole: no others are told alike.
abbrev pub ToldApart : Type 0
ToldApart = (m n : Five) → held_of m ≡ held_of n → m ≡ n

-- The pages in the pageable frames, the storage keys of these frames, and what the queues hold.
abbrev pub shown : Machine → Row
shown w =
    row_of (map (page_in w.records) pageable_frames) (map (λ f. slice_index w.keys f) pageable_frames) (held_of w.policy)

-- Calls made: each with what it answers and what is seen then; and the answers alone.
abbrev pub seen : List Call → Machine → List Step
seen [] w = []
seen (c ∷ cs) w = step_of c (worked parts c w).0 (shown (worked parts c w).1) ∷ seen cs (worked parts c w).1

abbrev pub answers : List Call → Machine → List (Result Reply model.Refusal)
answers [] w = []
answers (c ∷ cs) w = (worked parts c w).0 ∷ answers cs (worked parts c w).1

-- How often a Take would turn the names now.
abbrev pub turns_now : Machine → ℕ
turns_now w = turns (6 * size w.policy) w.policy w.keys

-- What a slot holds.
abbrev pub slot_of : ℕ → Machine → List ℕ
slot_of k w = parts.store.slot w.store k

-- The calls of some steps, and those of the run, one case after another.
abbrev pub calls_of : List Step → List Call
calls_of steps = map (λ s. s.call) steps

abbrev pub calls_e : List Call
calls_e = calls_of steps_e

abbrev pub calls_f : List Call
calls_f = calls_of steps_f

abbrev pub calls_g : List Call
calls_g = calls_of steps_g

abbrev pub calls_h : List Call
calls_h = calls_of steps_h

-- The machine after case E, before the last call of case F, after case F, and after case G.
unfoldable pub stored : Machine
stored = after calls_e ready

unfoldable pub turning : Machine
turning = after (take 2 calls_f) stored

unfoldable pub loaded : Machine
loaded = after calls_f stored

unfoldable pub emptied : Machine
emptied = after calls_g loaded

pub record CaseA : Type 0 where
  pub started : (ipl parts sizes wired).0 ≡ Ok tt
  pub words : words_seen words_a ready ≡ words_a
  pub left : shown ready ≡ row_a

-- The walks, and the numbers of their refusals; so too in case D.
pub record CaseC : Type 0 where
  pub given : walks_seen walks_c ready ≡ walks_c
  pub told : map walk_told (walks_seen walks_c ready) ≡ Ok 4095 ∷ Err 17 ∷ Err 16 ∷ Err 16 ∷ []

pub record CaseD : Type 0 where
  pub given : walks_under walks_d ready ≡ walks_d
  pub told : map (λ row. walk_told row.1) (walks_under walks_d ready) ≡ Err 18 ∷ Err 18 ∷ []

-- The steps, and the numbers of their refusals; so too in the cases below.
pub record CaseE : Type 0 where
  pub steps : seen calls_e ready ≡ steps_e
  pub says : said calls_e ready ≡ done ∷ []
  pub entry : entries_seen entries_e stored ≡ entries_e

-- Before the last call the names would turn three times.
pub record CaseF : Type 0 where
  pub steps : seen calls_f stored ≡ steps_f
  pub says : said calls_f stored ≡ byte 0 ∷ byte 0 ∷ byte 0 ∷ []
  pub turned : turns_now turning ≡ 3
  pub entry : entries_seen entries_f loaded ≡ entries_f

-- Behind its first byte the slot holds zeros.
pub record CaseG : Type 0 where
  pub steps : seen calls_g loaded ≡ steps_g
  pub says : said calls_g loaded ≡ byte 0 ∷ byte 0 ∷ []
  pub slot : slot_of slot_g.0 emptied ≡ slot_g.1 ∷ replicate 2047 0
  pub entry : entries_seen entries_g emptied ≡ entries_g

pub record CaseH : Type 0 where
  pub steps : seen calls_h emptied ≡ steps_h
  pub says : said calls_h emptied ≡ byte 7 ∷ refused 4 ∷ refused 4 ∷ refused 5 ∷ refused 5 ∷ []

pub record CaseI : Type 0 where
  pub answered : answers calls_i ready ≡ answers_i
  pub says : said calls_i ready ≡ done ∷ done ∷ done ∷ refused 35 ∷ byte 0 ∷ done ∷ byte 0 ∷ refused 38 ∷ []

-- The nine cases, and what their rows tell of the queues.
pub record Cases : Type 0 where
  pub apart : ToldApart
  pub a : CaseA
  pub b : entries_seen entries_b ready ≡ entries_b
  pub c : CaseC
  pub d : CaseD
  pub e : CaseE
  pub f : CaseF
  pub g : CaseG
  pub h : CaseH
  pub i : CaseI
