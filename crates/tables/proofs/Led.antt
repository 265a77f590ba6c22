-- The walk answers a real address exactly where the tables lead to one.
use Rattle.std.proofs.Common.{◌≡◌, ℕ, ◌+◌, ◌<◌, List, length, Some, None, Ok, Err, Option, Result, refl, ap, arith}
use Rattle.std.proofs.lemmas.Bool.Decides.{nat_tests}
use Rattle.tables.specs.Bits.{word_bits}
use Rattle.tables.specs.declared.Controls.{Controls}
use Rattle.tables.specs.declared.PageSize.{PageSize}
use Rattle.tables.specs.declared.PageSize.TheVariants.{Bytes2048, Bytes4096}
use Rattle.tables.specs.declared.Refusal.{Refusal}
use Rattle.tables.specs.declared.SegmentSize.{SegmentSize}
use Rattle.tables.specs.declared.SegmentSize.TheVariants.{Bytes65536, Bytes1048576}
use Rattle.tables.specs.declared.Sizes.{Sizes}
use Rattle.tables.specs.Walk.{and_then, page_size_of, segment_size_of, both_sizes, sizes_of, checked, segment_index, page_index, byte_index, segment_entry, valid_page, page_entry, frame_start, located, walk}
use Rattle.tables.specs.Leads.{NamesPage, NamesSegment, Names, Splits, SegmentGives, Valid, PageGives, Leads, Exact}

-- An answered chain of two steps is two answered steps.
pub chain_ok : {A B : Type 0} (r : Result A Refusal) (next : A → Result B Refusal) (y : B) → and_then r next ≡ Ok y
    → (x : A) × (r ≡ Ok x) × (next x ≡ Ok y)
chain_ok (Ok x) next y e = (x, refl, e)
chain_ok (Err why) next y e = absurd cc

pub located_ok : (s : List ℕ) (start byte real : ℕ) → located s start byte ≡ Ok real → (real ≡ start + byte) × (start + byte < length s)
located_ok s start byte real e = (grind (arith, nat_tests), grind (arith, nat_tests))

pub located_at : (s : List ℕ) (start byte : ℕ) → start + byte < length s → located s start byte ≡ Ok (start + byte)
located_at s start byte h = grind (arith, nat_tests)

-- The sizes that a control word names.
page_size : (cr0 : ℕ) (p : PageSize) → page_size_of (word_bits 8 9 cr0) ≡ Some p → NamesPage cr0 p
page_size cr0 Bytes2048 e = grind (arith, nat_tests)
page_size cr0 Bytes4096 e = grind (arith, nat_tests)

segment_size : (cr0 : ℕ) (g : SegmentSize) → segment_size_of (word_bits 11 12 cr0) ≡ Some g → NamesSegment cr0 g
segment_size cr0 Bytes65536 e = grind (arith, nat_tests)
segment_size cr0 Bytes1048576 e = grind (arith, nat_tests)

page_named : (cr0 : ℕ) (p : PageSize) → NamesPage cr0 p → page_size_of (word_bits 8 9 cr0) ≡ Some p
page_named cr0 Bytes2048 h = ap page_size_of h
page_named cr0 Bytes4096 h = ap page_size_of h

segment_named : (cr0 : ℕ) (g : SegmentSize) → NamesSegment cr0 g → segment_size_of (word_bits 11 12 cr0) ≡ Some g
segment_named cr0 Bytes65536 h = ap segment_size_of h
segment_named cr0 Bytes1048576 h = ap segment_size_of h

both : (o : Option PageSize) (q : Option SegmentSize) (z : Sizes) → both_sizes o q ≡ Some z → (o ≡ Some z.page) × (q ≡ Some z.segment)
both (Some p) (Some g) z e = (cc, cc)
both (Some p) None z e = absurd cc
both None (Some g) z e = absurd cc
both None None z e = absurd cc

sizes_names : (cr0 : ℕ) (z : Sizes) → sizes_of cr0 ≡ Some z → Names cr0 z
sizes_names cr0 z e =
    let q = both (page_size_of (word_bits 8 9 cr0)) (segment_size_of (word_bits 11 12 cr0)) z (grind (arith, nat_tests)) in
    record { page = page_size cr0 z.page q.0; segment = segment_size cr0 z.segment q.1; plain = grind (arith, nat_tests) }

names_sizes : (cr0 : ℕ) (z : Sizes) → Names cr0 z → sizes_of cr0 ≡ Some z
names_sizes cr0 z n = let p = page_named cr0 z.page n.page in let g = segment_named cr0 z.segment n.segment in grind (arith, nat_tests)

-- The parts of an address.
split : (p : PageSize) (g : SegmentSize) (a : ℕ) → a < 16777216
    → let z : Sizes = record { page = p; segment = g } in Splits z a (segment_index z a) (page_index z a) (byte_index z a)
split Bytes2048 Bytes65536 a h = record { sum = omega arith; in_page = omega arith; in_segment = omega arith; short = h }
split Bytes2048 Bytes1048576 a h = record { sum = omega arith; in_page = omega arith; in_segment = omega arith; short = h }
split Bytes4096 Bytes65536 a h = record { sum = omega arith; in_page = omega arith; in_segment = omega arith; short = h }
split Bytes4096 Bytes1048576 a h = record { sum = omega arith; in_page = omega arith; in_segment = omega arith; short = h }

-- The parts of an address are those that it is made of.
pub record Parts (z : Sizes) (a segment page byte : ℕ) : Type 0 where
  pub segment_is : segment_index z a ≡ segment
  pub page_is : page_index z a ≡ page
  pub byte_is : byte_index z a ≡ byte

parts : (p : PageSize) (g : SegmentSize) (a segment page byte : ℕ) → Splits (record { page = p; segment = g }) a segment page byte
    → Parts (record { page = p; segment = g }) a segment page byte
parts Bytes2048 Bytes65536 a segment page byte h = record { segment_is = omega arith; page_is = omega arith; byte_is = omega arith }
parts Bytes2048 Bytes1048576 a segment page byte h = record { segment_is = omega arith; page_is = omega arith; byte_is = omega arith }
parts Bytes4096 Bytes65536 a segment page byte h = record { segment_is = omega arith; page_is = omega arith; byte_is = omega arith }
parts Bytes4096 Bytes1048576 a segment page byte h = record { segment_is = omega arith; page_is = omega arith; byte_is = omega arith }

pub checked_ok : (w : Controls) (a : ℕ) (z : Sizes) → checked w a ≡ Ok z → (a < 16777216) × (sizes_of w.cr0 ≡ Some z)
unfolding checked
checked_ok w a z e = (grind (arith, nat_tests), grind (arith, nat_tests))

pub checked_of : (w : Controls) (a : ℕ) (z : Sizes) → a < 16777216 → sizes_of w.cr0 ≡ Some z → checked w a ≡ Ok z
unfolding checked
checked_of w a z h e = grind (arith, nat_tests)

-- A segment entry that was read.
segment_gives : (s : List ℕ) (w : Controls) (g e : ℕ) → segment_entry s w g ≡ Ok e → SegmentGives s w.cr1 g e
segment_gives s w g e h = record {
  in_table = grind (arith, nat_tests);
  stored = grind (arith, nat_tests);
  stands = grind (arith, nat_tests);
  reserved = (grind (arith, nat_tests), grind (arith, nat_tests), grind (arith, nat_tests), grind (arith, nat_tests), grind (arith, nat_tests), grind (arith, nat_tests));
  valid = grind (arith, nat_tests);
}

gives_segment : (s : List ℕ) (w : Controls) (g e : ℕ) → SegmentGives s w.cr1 g e → segment_entry s w g ≡ Ok e
gives_segment s w g e h = grind (arith, nat_tests)

-- A page entry that was read.
valid_from : (p : PageSize) (h : ℕ) → valid_page p h ≡ Ok h → Valid p h
valid_from Bytes2048 h e = (grind (arith, nat_tests), grind (arith, nat_tests))
valid_from Bytes4096 h e = (grind (arith, nat_tests), grind (arith, nat_tests), grind (arith, nat_tests))

valid_to : (p : PageSize) (h : ℕ) → Valid p h → valid_page p h ≡ Ok h
valid_to Bytes2048 h v = grind (arith, nat_tests)
valid_to Bytes4096 h v = grind (arith, nat_tests)

page_gives : (s : List ℕ) (z : Sizes) (e page h : ℕ) → page_entry s z e page ≡ Ok h → PageGives s z e page h
page_gives s z e page h k = record {
  in_table = grind (arith, nat_tests);
  stored = grind (arith, nat_tests);
  stands = grind (arith, nat_tests);
  valid = valid_from z.page h (grind (arith, nat_tests));
}

gives_page : (s : List ℕ) (z : Sizes) (e page h : ℕ) → PageGives s z e page h → page_entry s z e page ≡ Ok h
gives_page s z e page h k = let v = valid_to z.page h k.valid in grind (arith, nat_tests)

-- From the walk to the relation.
pub found : (s : List ℕ) (w : Controls) (a real : ℕ) → walk s w a ≡ Ok real → Leads s w a real
unfolding walk
found s w a real e =
    let c = chain_ok (checked w a) _ real e in
    let z = c.0 in
    let k = checked_ok w a z c.1 in
    let f = chain_ok (frame_start s w z (segment_index z a) (page_index z a)) _ real c.2 in
    let g = chain_ok (segment_entry s w (segment_index z a)) _ f.0 f.1 in
    let h = chain_ok (page_entry s z g.0 (page_index z a)) _ f.0 g.2 in
    let l = located_ok s f.0 (byte_index z a) real f.2 in
    let ok = h.2 in
    record {
      sizes = z;
      segment = segment_index z a;
      page = page_index z a;
      byte = byte_index z a;
      segment_entry = g.0;
      page_entry = h.0;
      names = sizes_names w.cr0 z k.1;
      splits = split z.page z.segment a k.0;
      from_segment = segment_gives s w (segment_index z a) g.0 g.1;
      from_page = page_gives s z g.0 (page_index z a) h.0 h.1;
      makes = cc;
      stored = omega arith;
    }

-- From the relation to the walk.
pub finds : (s : List ℕ) (w : Controls) (a real : ℕ) → Leads s w a real → walk s w a ≡ Ok real
unfolding walk
finds s w a real l =
    let z = l.sizes in
    let k = parts z.page z.segment a l.segment l.page l.byte l.splits in
    let c = checked_of w a z l.splits.short (names_sizes w.cr0 z l.names) in
    let g = gives_segment s w l.segment l.segment_entry l.from_segment in
    let h = gives_page s z l.segment_entry l.page l.page_entry l.from_page in
    rw (c, k.segment_is, k.page_is, k.byte_is, g, h) (grind (arith, nat_tests))

pub exact : (s : List ℕ) (w : Controls) (a : ℕ) → Exact s w a
exact s w a = record {
  found = λ real e. found s w a real e;
  finds = λ real l. finds s w a real l;
  stored = λ real e. (found s w a real e).stored;
}
