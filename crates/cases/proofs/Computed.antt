-- The cases, computed.
use Rattle.std.proofs.Common.{refl}
use Rattle.dataset.specs.Format.{blank_set, marks_known, opened}
use Rattle.model.specs.Ipl.{first_fault, ipl, own_pages, returned, with_entries, with_segments}
use Rattle.model.specs.Layout.{counted, found_in, frames_are}
use Rattle.model.specs.Refusals.{decode_fix, decode_free, decode_load, decode_store}
use Rattle.model.specs.Steps.{fix, free, load, store}
use Rattle.queues.specs.Five.{steps}
use Rattle.queues.specs.Laws.{turns}
use Rattle.storage.specs.Bytes.{half, page, put_half, put_page, put_word, word, zeros}
use Rattle.tables.specs.Walk.{checked, walk}
use Rattle.cases.proofs.ToldApart.{told_apart}
use Rattle.cases.specs.Cases.{CaseA, CaseC, CaseD, CaseE, CaseF, CaseG, CaseH, CaseI, Cases, emptied, loaded, stored, turning}
use Rattle.cases.specs.Worked.{ready}

-- Names all that the machine computes with: who unfolds it unfolds that.
unfoldable pub opening : Unit {0}
unfolding ready ipl first_fault with_segments with_entries own_pages returned load store fix free decode_load decode_store decode_fix decode_free counted found_in frames_are half page put_half put_page put_word word zeros blank_set marks_known opened steps turns checked walk stored turning loaded emptied
opening = tt

case_a : CaseA
unfolding opening
case_a = record { started = refl; words = refl; left = refl }

case_c : CaseC
unfolding opening
case_c = record { given = refl; told = refl }

case_d : CaseD
unfolding opening
case_d = record { given = refl; told = refl }

case_e : CaseE
unfolding opening
case_e = record { steps = refl; says = refl; entry = refl }

case_f : CaseF
unfolding opening
case_f = record { steps = refl; says = refl; turned = refl; entry = refl }

case_g : CaseG
unfolding opening
case_g = record { steps = refl; says = refl; slot = refl; entry = refl }

case_h : CaseH
unfolding opening
case_h = record { steps = refl; says = refl }

case_i : CaseI
unfolding opening
case_i = record { answered = refl; says = refl }

pub cases : Cases
unfolding opening
cases = record { apart = told_apart; a = case_a; b = refl; c = case_c; d = case_d; e = case_e; f = case_f; g = case_g; h = case_h; i = case_i }
