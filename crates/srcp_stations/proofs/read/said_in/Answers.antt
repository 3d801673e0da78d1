use Rattle.std.proofs.Common.{◌≡◌, ◌≢◌, ◌∷◌, ◌∙◌, refl, sym, arith}
use Rattle.std.specs.List.{join_with_byte}
use Rattle.srcp_stations.specs.declared.read.Head.TheVariants as head
use Rattle.srcp_stations.specs.declared.said.Said.{Said}
use Rattle.srcp_stations.specs.declared.said.Said.TheVariants.{Sensor, Slots, Power, Locomotive, Refused, Cv}
use Rattle.srcp_stations.specs.Said.{IsSaid}
use Rattle.srcp_stations.specs.Read.{head_of, head_word, more_words}
use Rattle.srcp_stations.proofs.ReadLaws.{front, head_no_space}
use Rattle.srcp_stations.proofs.read.said_in.Goals as goal

pub returns-in-Sensor : goal.returns-in-Sensor
returns-in-Sensor c = λ said ok is some.
    let words = c.inner.ensures (join_with_byte 32 (head_word (head_of said) ∷ more_words said)) (is ∙ front said some) in
    let cut = c.next_word.ensures (head_word (head_of said)) (more_words said) (head_no_space (head_of said)) words in
    each said ok (sym (c.head_named.ensures (head_of said) cut.0) ∙ c.in-Sensor.is) cut.1
  where
    each : (said : Said) → IsSaid said → head_of said ≡ head.Sensor c.in-Sensor.is_on
        → c.next_word.result.1.now ≡ join_with_byte 32 (more_words said) → Sensor c.number_in.result c.in-Sensor.is_on ≡ said
    each (Sensor number on) ok e is = grind (arith, c.number_in.ensures number)
    each said ok e is = grind arith

pub returns-in-Slots : goal.returns-in-Slots
returns-in-Slots c = λ said ok is some.
    let words = c.inner.ensures (join_with_byte 32 (head_word (head_of said) ∷ more_words said)) (is ∙ front said some) in
    let cut = c.next_word.ensures (head_word (head_of said)) (more_words said) (head_no_space (head_of said)) words in
    each said ok (sym (c.head_named.ensures (head_of said) cut.0) ∙ c.in-Slots.is) cut.1
  where
    each : (said : Said) → IsSaid said → head_of said ≡ head.Slots
        → c.next_word.result.1.now ≡ join_with_byte 32 (more_words said) → Slots c.number_in-in-Slots.result ≡ said
    each (Slots count) ok e is = grind (arith, c.number_in-in-Slots.ensures count)
    each said ok e is = grind arith

pub returns-in-Power : goal.returns-in-Power
returns-in-Power c = λ said ok is some.
    let words = c.inner.ensures (join_with_byte 32 (head_word (head_of said) ∷ more_words said)) (is ∙ front said some) in
    let cut = c.next_word.ensures (head_word (head_of said)) (more_words said) (head_no_space (head_of said)) words in
    each said ok (sym (c.head_named.ensures (head_of said) cut.0) ∙ c.in-Power.is) cut.1
  where
    each : (said : Said) → IsSaid said → head_of said ≡ head.Power c.in-Power.is_on
        → c.next_word.result.1.now ≡ join_with_byte 32 (more_words said) → Power c.track_named.result c.in-Power.is_on ≡ said
    each (Power track on) ok e is = grind (arith, c.track_named.ensures track)
    each said ok e is = grind arith

pub returns-in-Locomotive : goal.returns-in-Locomotive
returns-in-Locomotive c = λ said ok is some.
    let words = c.inner.ensures (join_with_byte 32 (head_word (head_of said) ∷ more_words said)) (is ∙ front said some) in
    let cut = c.next_word.ensures (head_word (head_of said)) (more_words said) (head_no_space (head_of said)) words in
    each said ok (sym (c.head_named.ensures (head_of said) cut.0) ∙ c.in-Locomotive.is) cut.1
  where
    each : (said : Said) → IsSaid said → head_of said ≡ head.Locomotive
        → c.next_word.result.1.now ≡ join_with_byte 32 (more_words said) → Locomotive c.report_in.result ≡ said
    each (Locomotive report) ok e is = grind (arith, c.report_in.ensures report ok is)
    each said ok e is = grind arith

pub returns-in-Cv : goal.returns-in-Cv
returns-in-Cv c = λ said ok is some.
    let words = c.inner.ensures (join_with_byte 32 (head_word (head_of said) ∷ more_words said)) (is ∙ front said some) in
    let cut = c.next_word.ensures (head_word (head_of said)) (more_words said) (head_no_space (head_of said)) words in
    each said ok (sym (c.head_named.ensures (head_of said) cut.0) ∙ c.in-Cv.is) cut.1
  where
    each : (said : Said) → IsSaid said → head_of said ≡ head.Cv c.in-Cv.is_checked
        → c.next_word.result.1.now ≡ join_with_byte 32 (more_words said) → c.cv_in.result ≡ said
    each (Cv checked cv value) ok e is = grind (arith, c.cv_in.ensures cv value)
    each said ok e is = grind arith

pub returns-in-Refused : goal.returns-in-Refused
returns-in-Refused c = λ said ok is some.
    let words = c.inner.ensures (join_with_byte 32 (head_word (head_of said) ∷ more_words said)) (is ∙ front said some) in
    let cut = c.next_word.ensures (head_word (head_of said)) (more_words said) (head_no_space (head_of said)) words in
    each said some (c.head_named.ensures (head_of said) cut.0)
  where
    each : (said : Said) → head_of said ≢ head.Other → c.head_named.result ≡ head_of said → Refused ≡ said
    each Refused some e = refl
    each said some e = grind (arith, c.in-Refused.is)
