mod Announced
