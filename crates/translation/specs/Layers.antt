-- The walker, which never has a pair, and the TLB, a layer of eight pairs over any translator.
use Rattle.std.specs.Prelude.{ℕ, ◌-◌, ◌≤◌, Bool, false, cond, ◌&&◌, ◌||◌, List, [], ◌∷◌, length, Some, None, Ok, Err, Option, Result, ◌==◌, slice_index_or}
use Rattle.recency.specs.Places.{at_end, place_of, put_last}
use Rattle.tables.specs.declared.Controls.{Controls}
use Rattle.tables.specs.declared.Refusal.{Refusal}
use Rattle.tables.specs.declared.Sizes.{Sizes}
use Rattle.tables.specs.Walk.{byte_index, checked, located, page_number, walk}
use Rattle.translation.specs.declared.pair.Pair.{Pair}
use Rattle.translation.specs.Translator.{Answer, Rules, Translated}

-- The walker's value is both control words.
abbrev pub walker_rules : Rules Controls
walker_rules = record {
  good = λ _. Unit {0};
  controls = λ w. w;
  has_pair = λ _ _ _. false;
  translate = λ w s a. record { answer = walk s w a; left = w };
  load = λ _ _ w. w;
  purge = λ w _. w;
  forget = λ w _. w;
}

-- Whether a list has the pair of a page and a frame start.
abbrev pub has : List Pair → ℕ → ℕ → Bool
has [] page start = false
has (p ∷ ps) page start = (p.page == page && p.start == start) || has ps page start

-- A list without the pairs of a page.
abbrev pub without : ℕ → List Pair → List Pair
without page [] = []
without page (p ∷ ps) = cond (p.page == page) (without page ps) (p ∷ without page ps)

abbrev pub pair_of : ℕ → ℕ → Pair
pair_of page start = record { page = page; start = start }

abbrev pub page_of : Pair → ℕ
page_of p = p.page

-- A hit: the pair at place i goes last, but where the byte is not in main storage all is kept.
abbrev pub hit : {M : Type 0} → M → List Pair → ℕ → Answer → Translated (M × List Pair)
hit m ps i (Ok real) = record { answer = Ok real; left = (m, at_end ps i) }
hit m ps i (Err why) = record { answer = Err why; left = (m, ps) }

-- A miss: the pair that the layer below has answered is put last, and the first goes where eight are held.
abbrev pub missed : {M : Type 0} → M → List Pair → ℕ → ℕ → Answer → Translated (M × List Pair)
missed m ps page byte (Ok real) = record { answer = Ok real; left = (m, put_last 8 ps (pair_of page (real - byte))) }
missed m ps page byte (Err why) = record { answer = Err why; left = (m, ps) }

-- By the place of the page's pair in the layer.
abbrev pub looked : {M : Type 0} → Rules M → M → List Pair → List ℕ → ℕ → Sizes → Option ℕ → Translated (M × List Pair)
looked below m ps s a z (Some i) = hit m ps i (located s (slice_index_or ps i (pair_of 0 0)).start (byte_index z a))
looked below m ps s a z None =
    missed (below.translate m s a).left ps (page_number z a) (byte_index z a) (below.translate m s a).answer

-- By the first two steps of the walk.
abbrev pub sized : {M : Type 0} → Rules M → M → List Pair → List ℕ → ℕ → Result Sizes Refusal → Translated (M × List Pair)
sized below m ps s a (Ok z) = looked below m ps s a z (place_of page_of (page_number z a) ps 0)
sized below m ps s a (Err why) = record { answer = Err why; left = (m, ps) }

-- The TLB's value is that of the translator below and the pairs held, first to go first.
abbrev pub tlb_rules : {M : Type 0} → Rules M → Rules (M × List Pair)
tlb_rules below = record {
  good = λ t. below.good t.0 × (length t.1 ≤ 8);
  controls = λ t. below.controls t.0;
  has_pair = λ t page start. has t.1 page start || below.has_pair t.0 page start;
  translate = λ t s a. sized below t.0 t.1 s a (checked (below.controls t.0) a);
  load = λ t s w. (below.load t.0 s w, []);
  purge = λ t s. (below.purge t.0 s, []);
  forget = λ t page. (below.forget t.0 page, without page t.1);
}
