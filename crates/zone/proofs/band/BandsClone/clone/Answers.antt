use Rattle.std.proofs.Common.{◌≡◌, length, arith, rules}
use Rattle.zone.proofs.Pairs.{zip_more, zip_all}
use Rattle.zone.proofs.band.BandsClone.clone.Goals as goal

pub returns : goal.returns
returns g c =
    let xs = c.args.self.now.places in
    let long : length xs ≡ 7 = search rules in
    record {
      cases =
          zip_more _ xs _ 0 c.index-self-0.result _ (omega (arith, long)) c.in_ok-clone.ensures.cases
          (zip_more _ xs _ 1 c.index-self-1.result _ (omega (arith, long)) c.in_ok-clone-2.ensures.cases
          (zip_more _ xs _ 2 c.index-self-2.result _ (omega (arith, long)) c.in_ok-clone-3.ensures.cases
          (zip_more _ xs _ 3 c.index-self-3.result _ (omega (arith, long)) c.in_ok-clone-4.ensures.cases
          (zip_more _ xs _ 4 c.index-self-4.result _ (omega (arith, long)) c.in_ok-clone-5.ensures.cases
          (zip_more _ xs _ 5 c.index-self-5.result _ (omega (arith, long)) c.in_ok-clone-6.ensures.cases
          (zip_more _ xs _ 6 c.index-self-6.result _ (omega (arith, long)) c.in_ok-clone-7.ensures.cases
          (zip_all _ xs 7 (omega (arith, long)))))))));
    }
