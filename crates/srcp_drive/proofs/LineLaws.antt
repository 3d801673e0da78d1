-- No line tells two things.
use Rattle.std.proofs.Common.{◌≡◌, ◌∙◌, ℕ, List, Option, Some, None, refl, sym, ap}
use Rattle.std.specs.Option.{option_map, option_map_or}
use Rattle.srcp_text.specs.Words.{words_of}
use Rattle.srcp_info.specs.Read.{Reads}
use Rattle.srcp_info.specs.declared.change.Change.{Change}
use Rattle.srcp_info.proofs.ReadLaws.{line_injective}
use Rattle.srcp_stations.specs.Said.{Reads as ReadsSaid}
use Rattle.srcp_stations.specs.declared.said.Said.{Said}
use Rattle.srcp_stations.proofs.SaidLaws.{messages_differ}
use Rattle.srcp_drive.specs.Hearing.{HearsMarked, listing, mark_in, mark_named, reply_heard, text_in}
use Rattle.srcp_drive.specs.Desks.{taken_so}
use Rattle.srcp_drive.specs.Laws.{LinesDiffer, NothingChanges}
use Rattle.srcp_drive.specs.declared.hearing.Heard.{Heard}
use Rattle.srcp_drive.specs.declared.hearing.Heard.TheVariants as tells
use Rattle.srcp_drive.specs.declared.hearing.Mark.{Mark}
use Rattle.srcp_drive.specs.declared.hearing.Mark.TheVariants as mark

one_change : (text : List ℕ) (a b : Option Change) → Reads text a → Reads text b → a ≡ b
one_change text None None h k = refl
one_change text None (Some y) h k = absurd (h y k)
one_change text (Some x) None h k = absurd (k x h)
one_change text (Some x) (Some y) h k = ap Some (line_injective x y h.well_formed k.well_formed (h.same ∙ sym k.same))

one_message : (text : List ℕ) (a b : Option Said) → ReadsSaid text a → ReadsSaid text b → a ≡ b
one_message text None None h k = refl
one_message text None (Some y) h k = absurd (h y k)
one_message text (Some x) None h k = absurd (k x h)
one_message text (Some x) (Some y) h k = ap Some (messages_differ text x y h k)

marked : (m : Mark) (text : List ℕ) (a b : Option Heard) → HearsMarked m text a → HearsMarked m text b → a ≡ b
marked mark.Panel text a b h k =
    h.same ∙ ap (λ change. option_map_or (λ change. Some (tells.Changed change)) change (listing (reply_heard (words_of text))))
    (one_change text h.change k.change h.reads k.reads) ∙ sym k.same
marked mark.Reply text a b h k = h ∙ sym k
marked mark.Station text a b h k = h.same ∙ ap (option_map tells.Says) (one_message text h.said k.said h.reads k.reads) ∙ sym k.same
marked mark.Moment text a b h k = h ∙ sym k
marked mark.Gone text a b h k = h ∙ sym k
marked mark.Away text a b h k = h ∙ sym k
marked mark.Ready text a b h k = h ∙ sym k
marked mark.Other text a b h k = h ∙ sym k

pub lines_differ : LinesDiffer
lines_differ line a b h k = marked (mark_named (mark_in line)) (text_in line) a b h k

pub nothing_changes : NothingChanges
nothing_changes old new line text none takes =
    let told : takes.told ≡ None = lines_differ line takes.told None takes.hears none in (
      takes.after ∙ ap (λ heard. (taken_so old heard).desk) told,
      takes.follows ∙ ap (λ heard. (taken_so old heard).text) told,
    )
