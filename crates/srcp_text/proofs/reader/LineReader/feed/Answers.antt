use Rattle.std.proofs.Common.{◌≡◌, ap, length, take, drop, ◌-◌, arith}
use Rattle.std.proofs.lemmas.Slice.{between_to_end}
use Rattle.srcp_text.specs.Feeding.{feed_of}
use Rattle.srcp_text.specs.declared.reader.Fed.TheVariants.{More}
use Rattle.srcp_text.proofs.ReadingLaws.{feed_of-more, feed_of-line, marks-fed, stands-fed}
use Rattle.srcp_text.proofs.reader.LineReader.feed.Goals as goal

more : (c : goal.After-append) → (More, c.append.new.self) ≡ feed_of c.args.self.now c.args.piece.now c.args.start
more c =
    let piece = c.args.piece.now in
    let left = take (length piece - c.args.start) (drop c.args.start piece) in
    feed_of-more c.args.self.now c.append.new.self piece left c.args.start
    (between_to_end piece c.args.start (length piece) (omega arith)) c.in_default.ensures c.append.ensures

line : (c : goal.After-end) → (c.end.result, c.end.new.self) ≡ feed_of c.args.self.now c.args.piece.now c.args.start
line c =
    let piece = c.args.piece.now in
    let left = take (length piece - c.args.start) (drop c.args.start piece) in
    feed_of-line c.args.self.now c.append-2.new.self c.end.new.self piece left c.args.start c.in-Some.len c.end.result
    (between_to_end piece c.args.start (length piece) (omega arith)) c.in-Some.ensures
    (ap (λ r. r.begun) c.append-2.ensures) c.end.ensures.found c.end.ensures.after

pub returns-in_default-clause-marks : goal.returns-in_default-clause-marks
returns-in_default-clause-marks c =
    λ fed stands. marks-fed fed c.args.self.now c.append.new.self c.args.piece.now c.args.start More (more c) stands

pub returns-in_default-clause-stands : goal.returns-in_default-clause-stands
returns-in_default-clause-stands c =
    λ fed stands. stands-fed fed c.args.self.now c.append.new.self c.args.piece.now c.args.start More (more c) stands

pub returns-clause-marks : goal.returns-clause-marks
returns-clause-marks c =
    λ fed stands. marks-fed fed c.args.self.now c.end.new.self c.args.piece.now c.args.start c.end.result (line c) stands

pub returns-clause-stands : goal.returns-clause-stands
returns-clause-stands c =
    λ fed stands. stands-fed fed c.args.self.now c.end.new.self c.args.piece.now c.args.start c.end.result (line c) stands
