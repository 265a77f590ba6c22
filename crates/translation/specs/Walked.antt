-- The walk by pages: all bytes of a page are in one frame. And the walker is a translator.
use Rattle.std.specs.Prelude.{◌≡◌, ℕ, ◌+◌, ◌*◌, ◌<◌, ◌≤◌, List, length, Ok, Err, Result, refl}
use Rattle.std.proofs.Common.{sym, ap, ◌∙◌, inr, arith}
use Rattle.tables.specs.declared.Controls.{Controls}
use Rattle.tables.specs.declared.PageSize.{PageSize}
use Rattle.tables.specs.declared.PageSize.TheVariants.{Bytes2048, Bytes4096}
use Rattle.tables.specs.declared.Refusal.{Refusal}
use Rattle.tables.specs.declared.SegmentSize.{SegmentSize}
use Rattle.tables.specs.declared.SegmentSize.TheVariants.{Bytes65536, Bytes1048576}
use Rattle.tables.specs.declared.Sizes.{Sizes}
use Rattle.tables.specs.Walk.{and_then, byte_index, checked, frame_start, located, page_bytes, page_index, page_number, segment_index, walk}
use Rattle.tables.proofs.Led.{chain_ok, checked_ok, checked_of, located_ok, located_at}
use Rattle.translation.specs.Layers.{walker_rules}
use Rattle.translation.specs.Translator.{Agrees, Answers, Lawful}

-- A walk past its first two steps.
pub walk_of : (s : List ℕ) (w : Controls) (a : ℕ) (z : Sizes) → checked w a ≡ Ok z
    → walk s w a ≡ and_then (frame_start s w z (segment_index z a) (page_index z a)) (λ start. located s start (byte_index z a))
unfolding walk
walk_of s w a z e = rw e

-- A walk refused in its first two steps.
pub walk_stops : (s : List ℕ) (w : Controls) (a : ℕ) (why : Refusal) → checked w a ≡ Err why → walk s w a ≡ Err why
unfolding walk
walk_stops s w a why e = rw e

-- The first byte of an address's page.
record FirstByte (z : Sizes) (a : ℕ) : Type 0 where
  segment_same : segment_index z (page_number z a * page_bytes z.page) ≡ segment_index z a
  page_same : page_index z (page_number z a * page_bytes z.page) ≡ page_index z a
  byte_none : byte_index z (page_number z a * page_bytes z.page) ≡ 0
  below : page_number z a * page_bytes z.page ≤ a

first_byte : (p : PageSize) (g : SegmentSize) (a : ℕ) → FirstByte (record { page = p; segment = g }) a
first_byte Bytes2048 Bytes65536 a = record { segment_same = omega arith; page_same = omega arith; byte_none = omega arith; below = omega arith }
first_byte Bytes2048 Bytes1048576 a = record { segment_same = omega arith; page_same = omega arith; byte_none = omega arith; below = omega arith }
first_byte Bytes4096 Bytes65536 a = record { segment_same = omega arith; page_same = omega arith; byte_none = omega arith; below = omega arith }
first_byte Bytes4096 Bytes1048576 a = record { segment_same = omega arith; page_same = omega arith; byte_none = omega arith; below = omega arith }

-- The walk of the first byte of an address's page.
first_walk : (s : List ℕ) (w : Controls) (a : ℕ) (z : Sizes) → checked w a ≡ Ok z
    → walk s w (page_number z a * page_bytes z.page)
    ≡ and_then (frame_start s w z (segment_index z a) (page_index z a)) (λ start. located s start 0)
first_walk s w a z e =
    let f = first_byte z.page z.segment a in
    let k = checked_ok w a z e in
    let l = f.below in
    let h = k.0 in
    rw (walk_of s w (page_number z a * page_bytes z.page) z (checked_of w (page_number z a * page_bytes z.page) z (omega arith) k.1), f.segment_same, f.page_same, f.byte_none)

-- By a frame start that agrees with the walk every byte of the page is answered as the walk answers it.
pub by_agreed : (s : List ℕ) (w : Controls) (a start : ℕ) (z : Sizes) → checked w a ≡ Ok z → Agrees s w (page_number z a) start
    → walk s w a ≡ located s start (byte_index z a)
by_agreed s w a start z e g =
    let k = checked_ok w a z e in
    let named = g.named in
    let zs : g.sizes ≡ z = cc in
    let walked = rw zs at g.walked in
    let c = chain_ok (frame_start s w z (segment_index z a) (page_index z a)) (λ st. located s st 0) start (sym (first_walk s w a z e) ∙ walked) in
    let l = located_ok s c.0 0 start c.2 in
    let same : c.0 ≡ start = omega arith in
    rw (walk_of s w a z e, c.1, same)

-- An answer of the walk gives a pair that agrees with it.
pub agreed_by : (s : List ℕ) (w : Controls) (a start : ℕ) (z : Sizes) → checked w a ≡ Ok z → walk s w a ≡ Ok (start + byte_index z a)
    → Agrees s w (page_number z a) start
agreed_by s w a start z e h =
    let k = checked_ok w a z e in
    let c = chain_ok (frame_start s w z (segment_index z a) (page_index z a)) (λ st. located s st (byte_index z a)) (start + byte_index z a) (sym (walk_of s w a z e) ∙ h) in
    let l = located_ok s c.0 (byte_index z a) (start + byte_index z a) c.2 in
    let same : c.0 ≡ start = omega arith in
    let stored : start + 0 < length s = omega arith in
    record { sizes = z; named = k.1; walked = rw (first_walk s w a z e, c.1, same, located_at s start 0 stored) (ap Ok (omega arith)) }

-- What the walker answers.
walker_answers : (w : Controls) (s : List ℕ) (a : ℕ) (r : Result Sizes Refusal) → checked w a ≡ r → Answers walker_rules w s a r (walk s w a)
walker_answers w s a (Ok z) e = inr (record { unknown = λ _. refl; answered = refl })
walker_answers w s a (Err why) e = walk_stops s w a why e

pub walker_lawful : Lawful walker_rules
walker_lawful = record {
  translate_good = λ m s a g. g;
  translate_controls = λ m s a g. refl;
  translate_answer = λ m s a g. walker_answers m s a (checked m a) refl;
  translate_pairs = λ m s a page start g e. absurd cc;
  translate_refused = λ m s a why g e page start. refl;
  load_good = λ m s w g. g;
  load_controls = λ m s w g. refl;
  load_agrees = λ m s w page start g e. absurd cc;
  purge_good = λ m s g. g;
  purge_controls = λ m s g. refl;
  purge_agrees = λ m s page start g e. absurd cc;
  forget_good = λ m page g. g;
  forget_controls = λ m page g. refl;
  forget_ends = λ m page start g. refl;
  forget_adds_none = λ m gone page start g e. e;
}
