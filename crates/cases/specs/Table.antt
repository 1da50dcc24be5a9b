-- The worked examples, each named for what it shows; prices are even unless a name says otherwise.
--   WorkedExamples   three shots in one line: the two outermost look fine, and the one between them shows that a cheaper line exists
--   WorkedCalls      what the calls on a sheet of a few shots do and answer
-- Assumes nothing.
use Rattle.std.specs.Prelude.{◌≡◌, pos, negsuc}
use Rattle.shots.specs.Prices.{even}
use Rattle.shots.specs.Refusals.{number_of}
use Rattle.shots.specs.declared.refusal.Refusal.TheVariants.{OneSpeed}
use Rattle.lines.specs.Lines.{any}
use Rattle.theory.specs.Points.{Cheapest, Spans}
use Rattle.fit.specs.Points.{points}
use Rattle.fit.specs.Rates.{fall_at}
use Rattle.fit.specs.Totals.{total_of}
use Rattle.law.specs.declared.stage.Stage.TheVariants.{Bare, Trying, InForce}
use Rattle.law.specs.declared.kinds.Call.TheVariants.{Strike, Pivot, Mount}
use Rattle.law.specs.declared.kinds.Word.TheVariants.{Laid, Moved, Proved}
use Rattle.law.specs.declared.kinds.Reply.TheVariants.{Done, Mounted, Refused}
use Rattle.law.specs.Turns.{Turn}
use Rattle.cases.specs.Examples.{at1000, at2000, at3000, five_shots, without2000, without500, one_speed, two_speeds, level, steep, gentle, late_thrice, sheet_at, sheet, add, told}

pub record WorkedExamples : Type 0 where
  pub level_line_costs_40 : total_of even level five_shots ≡ pos 40
  pub fall_at_1000_is_0 : fall_at even level five_shots at1000 ≡ pos 0
  pub fall_at_2000_is_below_0 : fall_at even level five_shots at2000 ≡ negsuc 999
  pub fall_at_3000_is_0 : fall_at even level five_shots at3000 ≡ pos 0
  pub level_line_has_two_speeds : Spans (any level) (points even five_shots)
  pub level_line_is_not_cheapest : Cheapest (any level) (points even five_shots) → ⊥

pub record WorkedCalls : Type 0 where
  -- three pivots bring the five shots' line into force
  pub first_pivot_lays : Turn Pivot (told Laid steep (pos 5000)) (sheet five_shots Bare) (sheet five_shots (Trying steep))
  pub second_pivot_moves : Turn Pivot (told Moved gentle (pos 2000)) (sheet five_shots (Trying steep)) (sheet five_shots (Trying gentle))
  pub third_pivot_proves : Turn Pivot (told Proved gentle (pos 2000)) (sheet five_shots (Trying gentle)) (sheet five_shots (InForce gentle))
  -- what a strike does to it
  pub strike_after_which_it_is_still_best_leaves_it_in_force : Turn (Strike (pos 2)) Done (sheet five_shots (InForce gentle)) (sheet without2000 (InForce gentle))
  pub strike_after_which_a_cheaper_line_exists_leaves_it_trying : Turn (Strike (pos 0)) Done (sheet five_shots (InForce gentle)) (sheet without500 (Trying gentle))
  pub pivot_after_that_strike_moves_to_the_level_line : Turn Pivot (told Moved level (pos 20)) (sheet without500 (Trying gentle)) (sheet without500 (Trying level))
  -- one speed
  pub pivot_refuses_one_speed : Turn Pivot (Refused OneSpeed) (sheet one_speed Bare) (sheet one_speed Bare)
  pub one_speed_is_refused_by_number_7 : number_of OneSpeed ≡ 7
  pub add_of_another_speed_leaves_the_sheet_bare : Turn (add (pos 2000) (pos 0)) Done (sheet one_speed Bare) (sheet two_speeds Bare)
  pub pivot_then_lays_the_level_line : Turn Pivot (told Laid level (pos 10)) (sheet two_speeds Bare) (sheet two_speeds (Trying level))
  pub pivot_then_proves_the_level_line : Turn Pivot (told Proved level (pos 10)) (sheet two_speeds (Trying level)) (sheet two_speeds (InForce level))
  pub mount_at_even_prices_takes_the_lower_lead : Turn (Mount (pos 1) (pos 0)) (Mounted (pos 0)) (sheet one_speed Bare) (sheet one_speed Bare)
  pub mount_where_late_costs_3_takes_the_higher_lead : Turn (Mount (pos 1) (pos 0)) (Mounted (pos 10)) (sheet_at late_thrice one_speed Bare) (sheet_at late_thrice one_speed Bare)
