-- The lines of the worked rows have their reasons by the events alone.
use Rattle.std.proofs.Common.{[], refl, arith, inl, inr}
use Rattle.std.specs.Prelude.{take}
use Rattle.zb_types.specs.declared.nodes.Node.TheVariants.{Manager}
use Rattle.zb_headline.specs.Reasons.{WasArmed}
use Rattle.zb_claims.specs.Rows.{armed_script, armed_report}
use Rattle.zb_headline.specs.Calm.{calm, place, RowsReasoned}

-- the platter was armed for two writes, and two have come
stopped : WasArmed (place (calm (λ platter n. 2)) armed_script (take 3 armed_report)) Manager 0
stopped = record { front = take 2 armed_report; rest = []; split = refl; spent = λ _. record { since = refl; copies = refl; place = 2; count = 2; is = refl; spent = omega arith } }

pub rows_reasoned : RowsReasoned
rows_reasoned = record {
  hello = (tt, (tt, (tt, (tt, (tt, tt)))));
  two = (tt, (tt, (tt, (tt, (tt, (tt, (tt, (tt, (tt, (tt, (tt, (tt, (tt, tt)))))))))))));
  armed = (tt, (tt, (tt, (inr (inl stopped), (tt, (tt, (tt, (tt, tt))))))));
  dropped = (tt, (tt, (tt, (tt, (refl, (refl, (tt, (tt, tt))))))));
  down = (tt, (inl refl, (inl refl, (inl refl, (tt, (tt, tt))))));
  eight = (tt, (tt, (tt, (tt, (tt, (tt, (tt, (tt, (tt, (tt, (tt, (tt, (tt, (tt, (tt, (tt, tt))))))))))))))));
}
