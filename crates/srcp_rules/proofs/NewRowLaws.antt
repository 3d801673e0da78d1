-- The rows of a fresh device.
use Rattle.srcp_rules.proofs.Names
use Names.{each-range, ◌≡◌, ℕ, suc, ◌+◌, ◌<◌, ◌≤◌, false, List, [], ◌∷◌, map, replicate, take, None, refl, sym, ap, ◌∙◌, arith}
use Names.{range_with_len, Device, Row, IsMoment, Bus, InitGl, InitGa, row_count, device_in, key_at, State, IsRowOf, put_of, row_put}
use Names.{put_at, fresh_ga, gl_init, MayObey, AreRowsOf}
use Names.value
use Names.devices
use Rattle.std.proofs.lemmas.List.{length-replicate}
use Rattle.std.proofs.lemmas.List.FromFn.{take-map-range_with_len, length-map-range_with_len}
use Rattle.srcp_info.specs.declared.value.Letter.{Letter}
use Rattle.srcp_grammar.specs.declared.command.NewGl.{NewGl}
use Rattle.srcp_grammar.specs.declared.command.NewGa.{NewGa}
use Rattle.srcp_rules.proofs.StepLaws.{IsRowOf-put}
use Rattle.srcp_rules.proofs.AddsNoRowLaws.{gl_count}
use Rattle.std.proofs.lemmas.Simd.{map-map}

module _ (moment : ℕ) where
  abbrev pub gl_fresh : NewGl → List Row
  gl_fresh gl =
      row_put moment (key_at (device_in devices.Gl gl.bus gl.address) 0) (gl_init gl) None
      ∷ row_put moment (key_at (device_in devices.Gl gl.bus gl.address) 1) (value.GlState 1 0 0 (replicate gl.functions false)) None ∷ []

  abbrev port_row : Device → ℕ → Row
  port_row device port = row_put moment (key_at device port) (value.GaPort false) None

  abbrev pub ga_fresh : Device → Letter → (ports : ℕ) → List Row
  ga_fresh device letter ports =
      row_put moment (key_at device 0) (value.GaInit letter) None ∷ map (port_row device) (range_with_len 1 ports)

  -- the rows of the fewest ports among those of the most
  pub ga_taken : (device : Device) (letter : Letter) (ports n : ℕ) → ports ≤ 8 → n ≡ 1 + ports
      → take n (ga_fresh device letter 8) ≡ ga_fresh device letter ports
  ga_taken device letter ports n few e =
      let one : n ≡ suc ports = omega arith in
      ap (λ k. take k (ga_fresh device letter 8)) one
      ∙ ap (λ rows. row_put moment (key_at device 0) (value.GaInit letter) None ∷ rows)
      (take-map-range_with_len (port_row device) 1 8 ports few)

  pub ga_puts : (ga : NewGa) → map put_of (ga_fresh (device_in devices.Ga ga.bus ga.address) ga.letter ga.ports) ≡ fresh_ga moment ga
  ga_puts ga =
      ap (λ updates. put_at moment (key_at (device_in devices.Ga ga.bus ga.address) 0) (value.GaInit ga.letter) None ∷ updates)
      (map-map put_of (port_row (device_in devices.Ga ga.bus ga.address)) (range_with_len 1 ga.ports))

module _ (buses : List Bus) (state : State) (session moment : ℕ) (now : IsMoment moment) where
  pub gl_rows : (gl : NewGl) → MayObey buses state session (InitGl gl)
      → AreRowsOf buses (device_in devices.Gl gl.bus gl.address) (gl_fresh moment gl)
  gl_rows gl may =
      let functions = gl.functions in
      let device = device_in devices.Gl gl.bus gl.address in
      let some : 0 < row_count buses device = may.of.0 in
      let fits = may.of.1 in
      let count : row_count buses device ≡ 2 = gl_count buses gl.bus gl.address some in
      let most : functions ≤ 29 = fits.4 in
      let long = length-replicate functions false in
      record {
        keys = ap (λ n. map (key_at device) (range_with_len 0 n)) (sym count);
        few = omega arith;
        each = (
          IsRowOf-put buses may.whole.laid_out (key_at device 0) moment (gl_init gl) None some now fits tt,
          (
            IsRowOf-put buses may.whole.laid_out _ _ _ _ (omega (arith, count)) now
                (refl, refl, (omega arith, omega arith, omega arith, refl, λ e. absurd (omega (arith, e))), omega (arith, most, long)) tt,
            tt,
          ),
        );
      }

  pub ga_rows : (ga : NewGa) → MayObey buses state session (InitGa ga)
      → AreRowsOf buses (device_in devices.Ga ga.bus ga.address)
      (ga_fresh moment (device_in devices.Ga ga.bus ga.address) ga.letter ga.ports)
  ga_rows ga may =
      let ports = ga.ports in
      let device = device_in devices.Ga ga.bus ga.address in
      let count : row_count buses device ≡ 1 + ports = may.of.0 in
      let more : row_count buses device ≡ suc ports = omega (arith, count) in
      let few : ports ≤ 8 = may.of.1 in
      let long = length-map-range_with_len (port_row moment device) 1 ports in
      record {
        keys =
            ap (λ keys. key_at device 0 ∷ keys) (map-map (λ (row : Row). row.shown.key) (port_row moment device) (range_with_len 1 ports))
            ∙ ap (λ n. map (key_at device) (range_with_len 0 n)) (sym more);
        few = omega (arith, few, long);
        each = (
          IsRowOf-put buses may.whole.laid_out _ _ _ _ (omega (arith, count)) now (refl, refl) tt,
          each-range (IsRowOf buses) (port_row moment device) 1 ports (λ port low high.
              IsRowOf-put buses may.whole.laid_out _ _ _ _ (omega (arith, count, high)) now (refl, (low, omega (arith, few, high))) tt),
        );
      }
